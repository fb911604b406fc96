use Rattle.std.proofs.Common.{◌≡◌, ap, ◌∙◌, arith}
use Rattle.ddt_resolver.specs.State.{State}
use Rattle.ddt_resolver.proofs.StateLemmas.{next_absent, is_next, order_opened}
use Rattle.ddt_resolver.proofs.resolver.Resolver.open.Goals as goal

pub add-requires-clause-ticket : goal.add-requires-clause-ticket
add-requires-clause-ticket g c =
    rw (c.reserve.ensures.lookups, ap (λ (s : State). s.pending) c.self.view_is, c.numbered-numbered.ensures) (next_absent _ (rw c.self.view_is at c.self.invariant))

pub add-requires-clause-next : goal.add-requires-clause-next
add-requires-clause-next g c =
    is_next _ (rw c.self.view_is at c.self.invariant) _ c.args.lookup.now _ (c.reserve.ensures.lookups ∙ ap (λ (s : State). s.pending) c.self.view_is)
    (c.reserve.ensures.next ∙ ap (λ (s : State). s.next) c.self.view_is) c.requires.nonce c.numbered-numbered.ensures

pub invariant_of-self-2 : goal.invariant_of-self-2
invariant_of-self-2 g c =
    let e : c.self.inside.table.next ≡ c.args.self.now.next = ap (λ (s : State). s.next) c.self.view_is in
    rw (c.add.ensures.next, c.reserve.ensures.next)
    (order_opened _ c.self.invariant c.add.new.self.lookups c.args.lookup.now c.requires.lookup (omega (arith, c.requires.nonce, e)) (rw (← c.self.view_is) at c.requires.few)
    (rw (c.add.ensures.lookups, c.reserve.ensures.lookups, c.numbered-numbered.ensures, ← c.self.view_is)))
