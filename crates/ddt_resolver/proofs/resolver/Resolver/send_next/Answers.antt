use Rattle.std.proofs.Common.{◌≡◌, ap, ◌∙◌, arith}
use Rattle.ddt_resolver.specs.State.{State}
use Rattle.ddt_resolver.proofs.StateLemmas.{is_next, order_sent}
use Rattle.ddt_resolver.proofs.resolver.Resolver.send_next.Goals as goal

pub replace-requires-clause-there : goal.replace-requires-clause-there
replace-requires-clause-there g c = (c.args.ticket, rw (c.prepare.ensures.lookups, ap (λ (s : State). s.pending) c.self.view_is) c.requires.there)

pub replace-requires-clause-next : goal.replace-requires-clause-next
replace-requires-clause-next g c =
    is_next _ (rw c.self.view_is at c.self.invariant) _ c.args.lookup.now _ (c.prepare.ensures.lookups ∙ ap (λ (s : State). s.pending) c.self.view_is)
    (c.prepare.ensures.next ∙ ap (λ (s : State). s.next) c.self.view_is) c.requires.nonce c.numbered-numbered.ensures

pub invariant_of-self-2 : goal.invariant_of-self-2
invariant_of-self-2 g c =
    let e : c.self.inside.table.next ≡ c.args.self.now.next = ap (λ (s : State). s.next) c.self.view_is in
    let there = rw (← c.self.view_is) at c.requires.there in
    rw (c.replace.ensures.next, c.prepare.ensures.next)
    (order_sent _ c.self.invariant c.apply.new.cache c.replace.new.self.lookups c.args.change.now c.args.ticket c.args.lookup.now c.requires.change there c.requires.lookup
    (omega (arith, c.requires.nonce, e)) c.in_ok-apply.ensures.applied
    (rw (c.replace.ensures.lookups c.args.ticket (rw c.prepare.ensures.lookups there), c.prepare.ensures.lookups, c.numbered-numbered.ensures, ← c.self.view_is)))
