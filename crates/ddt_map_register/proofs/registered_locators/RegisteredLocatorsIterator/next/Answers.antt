use Rattle.std.proofs.Common.{ap, length, arith}
use Rattle.ddt_map_register.specs.RegisteredLocator.{locator_at}
use Rattle.ddt_foreign.proofs.SeveralLemmas.{none_left, next_of, never_refused}
use Rattle.ddt_map_register.proofs.registered_locators.RegisteredLocatorsIterator.next.Goals as goal

pub returns-then-self-eq0-clause-steps : goal.returns-then-self-eq0-clause-steps
returns-then-self-eq0-clause-steps c =
    let e = none_left locator_at c.self.inside.left c.self.inside.bytes.now c.args.self.now c.if-self-eq0.true c.self.view_is in
    (e, e)

pub invariant_of-self : goal.invariant_of-self
invariant_of-self c = (next_of locator_at c.self.inside.left c.self.inside.bytes.now c.in-Ok.after.now c.args.self.now c.in-Ok.locator c.if-self-eq0.false c.in-Ok.ensures c.self.invariant c.self.view_is).1

pub unreachable-requires : goal.unreachable-requires
unreachable-requires c = never_refused locator_at c.self.inside.left c.self.inside.bytes.now c.in-Err._fault c.if-self-eq0.false c.in-Err.ensures c.self.invariant

pub returns-clause-steps : goal.returns-clause-steps
returns-clause-steps c = (next_of locator_at c.self.inside.left c.self.inside.bytes.now c.in-Ok.after.now c.args.self.now c.in-Ok.locator c.if-self-eq0.false c.in-Ok.ensures c.self.invariant c.self.view_is).0

pub returns-clause-goes : goal.returns-clause-goes
returns-clause-goes c =
    let e = ap length (returns-clause-steps c) in
    record {
      on = λ _. (tt, tt, omega (arith, e));
      keeps = tt;
      rests = λ _. tt;
    }
