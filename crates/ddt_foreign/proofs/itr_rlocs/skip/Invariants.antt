use Rattle.std.proofs.Common.{◌-◌}
use Rattle.ddt_foreign.specs.Request.{rloc_at}
use Rattle.ddt_foreign.proofs.SeveralLemmas.{IsReadSoFar}
use Rattle.ddt_foreign.proofs.itr_rlocs.skip.Given as goal

abbrev pub invariant-loop : goal.invariant-loop
invariant-loop l = IsReadSoFar rloc_at l.count l.bytes (l.count - l.counter) l.rest
