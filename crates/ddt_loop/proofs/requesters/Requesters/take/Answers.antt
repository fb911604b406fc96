use Rattle.std.proofs.Common.{◌≡◌, ◌<◌, length, sym, ◌∙◌, arith}
use Rattle.std.proofs.lemmas.Bool.{false≢true}
use Rattle.ddt_loop.proofs.WaitingLemmas.{nobody_at, somebody_at, place_within}
use Rattle.ddt_loop.proofs.requesters.Requesters.take.Goals as goal

pub returns-clause-takes : goal.returns-clause-takes
returns-clause-takes c =
    let place = rw c.number.ensures at c.place_of.ensures in
    rw (← c.self.view_is, c.in_ok-owner.ensures.items)
    (somebody_at c.args.ticket c.self.inside.waiting.items c.in_ok-place.place c.in_ok-owner.owner (sym place ∙ c.in_ok-place.was) c.in_ok-owner.ensures.value)

pub returns-in_err-place-clause-takes : goal.returns-in_err-place-clause-takes
returns-in_err-place-clause-takes c =
    let place = rw c.number.ensures at c.place_of.ensures in
    rw (← c.self.view_is, c.from_residual.ensures) (nobody_at c.args.ticket c.self.inside.waiting.items (sym place ∙ c.in_err-place.was))

pub returns-in_err-owner-clause-takes : goal.returns-in_err-owner-clause-takes
returns-in_err-owner-clause-takes c =
    let place = rw c.number.ensures at c.place_of.ensures in
    let within = place_within c.args.ticket c.self.inside.waiting.items c.in_ok-place.place (sym place ∙ c.in_ok-place.was) in
    let len : c.self.inside.waiting.len ≡ length c.self.inside.waiting.items = search in
    let there : c.in_ok-place.place < c.self.inside.waiting.len = omega (arith, within, len) in
    absurd (false≢true (c.in_err-owner.ensures.variant.1 there))
