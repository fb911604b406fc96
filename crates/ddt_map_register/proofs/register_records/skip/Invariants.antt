use Rattle.std.proofs.Common.{◌-◌}
use Rattle.ddt_map_register.specs.RegisterRecord.{record_at}
use Rattle.ddt_foreign.proofs.SeveralLemmas.{IsReadSoFar}
use Rattle.ddt_map_register.proofs.register_records.skip.Given as goal

abbrev pub invariant-loop : goal.invariant-loop
invariant-loop l = IsReadSoFar record_at l.count l.bytes (l.count - l.counter) l.rest
