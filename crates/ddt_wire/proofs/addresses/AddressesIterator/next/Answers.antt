use Rattle.std.proofs.Common.{ap, length, arith}
use Rattle.ddt_wire.proofs.AddressesLemmas.{none_left, next_of, never_refused}
use Rattle.ddt_wire.proofs.addresses.AddressesIterator.next.Goals as goal

pub returns-then-self-eq0-clause-steps : goal.returns-then-self-eq0-clause-steps
returns-then-self-eq0-clause-steps g c =
    let e = none_left g.row.BEFORE c.self.inside.left c.self.inside.bytes.now c.args.self.now c.if-self-eq0.true c.self.view_is in
    (e, e)

pub invariant_of-self : goal.invariant_of-self
invariant_of-self g c = (next_of g.row.BEFORE c.self.inside.left c.self.inside.bytes.now c.args.self.now c.in-Ok.address c.in-Ok.taken c.split_at.result.1.now c.if-self-eq0.false c.in-Ok.ensures.exact c.split_at.ensures.back c.self.invariant c.self.view_is).1

pub unreachable-requires : goal.unreachable-requires
unreachable-requires g c = never_refused g.row.BEFORE c.self.inside.left c.self.inside.bytes.now c.in-Err._fault c.if-self-eq0.false c.in-Err.ensures.exact c.self.invariant

pub returns-clause-steps : goal.returns-clause-steps
returns-clause-steps g c = (next_of g.row.BEFORE c.self.inside.left c.self.inside.bytes.now c.args.self.now c.in-Ok.address c.in-Ok.taken c.split_at.result.1.now c.if-self-eq0.false c.in-Ok.ensures.exact c.split_at.ensures.back c.self.invariant c.self.view_is).0

pub returns-clause-goes : goal.returns-clause-goes
returns-clause-goes g c =
    let e = ap length (returns-clause-steps g c) in
    record {
      on = λ _. (tt, tt, omega (arith, e));
      keeps = tt;
      rests = λ _. tt;
    }
