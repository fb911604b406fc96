use Rattle.std.proofs.Common.{refl, ap, arith}
use Rattle.ddt_path.specs.declared.record.Outcome.TheVariants.{NotRegistered}
use Rattle.ddt_resolver.specs.declared.results.Ticked.TheVariants.{Answer}
use Rattle.ddt_resolver.specs.TickStep.{answered}
use Rattle.ddt_resolver.specs.laws.Shape.{again_lookup, next_lookup}
use Rattle.ddt_resolver.proofs.resolver.Resolver.go_on.Goals as goal

pub try_on-requires-clause-lookup : goal.try_on-requires-clause-lookup
try_on-requires-clause-lookup g c = rw c.tried_again.ensures (again_lookup _ c.in_order.ensures _ _ c.requires)

pub overflow_add-lookup : goal.overflow_add-lookup
overflow_add-lookup g c =
    let w = (c.in_order.ensures.lookups _ _ c.requires).lookup in
    omega (arith, w.place, w.few)

pub try_on-requires-then-lookup-as_slice-clause-lookup : goal.try_on-requires-then-lookup-as_slice-clause-lookup
try_on-requires-then-lookup-as_slice-clause-lookup g c =
    rw c.at_next.ensures (next_lookup _ c.in_order.ensures _ _ c.requires (rw c.as_slice.ensures.items at c.if-lookup-as_slice.true))

pub returns-in-Some-clause-on : goal.returns-in-Some-clause-on
returns-in-Some-clause-on g c =
    answered c.in-Some.told c.if-not-lookup.false (rw c.as_slice.ensures.items at c.if-lookup-as_slice.false) c.in-Some.is
    (c.close.ensures c.args.ticket (c.args.lookup.now, c.requires, refl)) (ap (λ z. Answer z (NotRegistered c.in-Some.told.prefix c.in-Some.told.servers)) c.of.ensures)
