use Rattle.std.proofs.Common.{◌≡◌, map, take}
use Rattle.ddt_plan.specs.Fast.{delegation_of}
use Rattle.ddt_plan.proofs.sides.delegations.Given as goal

abbrev pub invariant-loop-zone : goal.invariant-loop-zone
invariant-loop-zone l = l.zones.items ≡ map (delegation_of l.accepted) (take l.zone-index l.zone-items)
