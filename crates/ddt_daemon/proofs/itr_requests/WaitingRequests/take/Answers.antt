use Rattle.std.proofs.Common.{◌≡◌, length, Option, sym, subst, ◌∙◌}
use Rattle.ddt_daemon.specs.declared.itr_requests.WaitingRequest.{WaitingRequest}
use Rattle.ddt_daemon.specs.WaitingRequest.{TakesKept}
use Rattle.ddt_daemon.proofs.KeptLemmas.{nobody_at, taken_at}
use Rattle.ddt_daemon.proofs.itr_requests.WaitingRequests.take.Goals as goal

pub returns : goal.returns
returns c =
    let kept = c.args.self.now.kept.items in
    let place = sym c.place_of.ensures ∙ c.in_ok-place.was in
    let len : c.args.self.now.kept.len ≡ length kept = search in
    taken_at c.args.ticket kept c.remove.new.self.items c.in_ok-place.place c.remove.result place c.args.self.now.kept.len len
    c.remove.ensures.variant c.remove.ensures.value c.remove.ensures.items

pub returns-in_err-place : goal.returns-in_err-place
returns-in_err-place c =
    let kept = c.args.self.now.kept.items in
    subst (λ (taken : Option WaitingRequest). TakesKept c.args.ticket kept kept taken) (sym c.from_residual.ensures)
    (nobody_at c.args.ticket kept (sym c.place_of.ensures ∙ c.in_err-place.was))
