use Rattle.std.proofs.Common.{◌≡◌, true, take}
use Rattle.ddt_laws.specs.Registrations.Ranges.{are_ranked}
use Rattle.ddt_laws.proofs.registrations.ranges.etrs_in_range.Given as goal

abbrev pub invariant-loop-etr : goal.invariant-loop-etr
invariant-loop-etr l = are_ranked (take l.etr-index l.etrs) ≡ true
