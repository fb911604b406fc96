use Rattle.std.proofs.Common.{◌-◌}
use Rattle.ddt_wire.proofs.AddressesLemmas.{IsReadSoFar}
use Rattle.ddt_wire.proofs.addresses.skip.Given as goal

abbrev pub invariant-loop : goal.invariant-loop
invariant-loop g l = IsReadSoFar g.row.BEFORE l.count l.bytes (l.count - l.counter) l.rest
