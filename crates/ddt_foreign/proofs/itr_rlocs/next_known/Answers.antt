use Rattle.std.proofs.Common.{arith}
use Rattle.ddt_foreign.specs.Request.{rloc_at, known_in}
use Rattle.ddt_foreign.proofs.SeveralLemmas.{never_refused}
use Rattle.ddt_foreign.proofs.KnownLemmas.{next_some, next_none, next_ends}
use Rattle.ddt_foreign.proofs.itr_rlocs.next_known.Goals as goal

pub returns-in-Some-clause-first : goal.returns-in-Some-clause-first
returns-in-Some-clause-first c = (next_some c.loop-left.left c.loop-left.rest.now c.in-Ok.after.now c.in-Ok.rloc c.in-Some.address (known_in c.args.count c.args.bytes.now) (λ e. omega (arith, e)) c.in-Ok.ensures c.loop-left.invariant.read c.in-Some.is c.loop-left.invariant.same).0

pub returns-in-Some-clause-left : goal.returns-in-Some-clause-left
returns-in-Some-clause-left c = (next_some c.loop-left.left c.loop-left.rest.now c.in-Ok.after.now c.in-Ok.rloc c.in-Some.address (known_in c.args.count c.args.bytes.now) (λ e. omega (arith, e)) c.in-Ok.ensures c.loop-left.invariant.read c.in-Some.is c.loop-left.invariant.same).1

pub loop-left-preserved : goal.loop-left-preserved
loop-left-preserved c =
    let p = next_none c.loop-left.left c.loop-left.rest.now c.in-Ok.after.now c.in-Ok.rloc (known_in c.args.count c.args.bytes.now) (λ e. omega (arith, e)) c.in-Ok.ensures c.loop-left.invariant.read c.in_default.is c.loop-left.invariant.same in
    record { read = p.0; same = p.1 }

pub unreachable-requires : goal.unreachable-requires
unreachable-requires c = never_refused rloc_at c.loop-left.left c.loop-left.rest.now c.in-Err._fault (λ e. omega (arith, e)) c.in-Err.ensures c.loop-left.invariant.read

pub returns-clause-none : goal.returns-clause-none
returns-clause-none c e = next_ends c.loop-left.left c.loop-left.rest.now (known_in c.args.count c.args.bytes.now) (omega arith) c.loop-left.invariant.same
