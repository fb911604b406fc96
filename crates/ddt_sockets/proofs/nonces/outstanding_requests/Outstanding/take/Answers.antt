use Rattle.std.proofs.Common.{◌≡◌, length, Option, sym, subst, None, Some, List, ◌∙◌}
use Rattle.ddt_sockets.specs.Nonces.Outstanding.{Request, Takes, is_reply_to}
use Rattle.ddt_sockets.proofs.NoncesLemmas.SentLemmas.{unknown_at, taken_at}
use Rattle.ddt_sockets.proofs.nonces.outstanding_requests.Outstanding.take.Goals as goal

pub returns-in_err-place : goal.returns-in_err-place
returns-in_err-place c =
    let sent = c.args.self.now.sent.items in
    subst (λ (taken : Option Request). Takes c.args.at c.args.from c.args.wire sent sent taken) (sym c.from_residual.ensures)
    (unknown_at c.args.at c.args.from c.args.wire sent (sym c.place_of.ensures ∙ c.in_err-place.was))

pub returns : goal.returns
returns c =
    let sent = c.args.self.now.sent.items in
    let place = sym c.place_of.ensures ∙ c.in_ok-place.was in
    let len : c.args.self.now.sent.len ≡ length sent = search in
    taken_at c.args.at c.args.from c.args.wire sent c.remove.new.self.items c.in_ok-place.place c.remove.result place c.args.self.now.sent.len len c.remove.ensures.variant c.remove.ensures.value c.remove.ensures.items
