use Rattle.std.proofs.Common.{◌≡◌, take}
use Rattle.std.specs.List.{filter}
use Rattle.ddt_organisations.specs.Meets.{seen, is_delegated}
use Rattle.ddt_organisations.proofs.delegations.delegated_zones.Given as goal

abbrev pub invariant-loop-zone : goal.invariant-loop-zone
invariant-loop-zone l = l.found.items ≡ filter (is_delegated (seen l.organisation)) (take l.zone-index l.zone-items)
