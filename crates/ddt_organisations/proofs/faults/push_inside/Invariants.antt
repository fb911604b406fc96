use Rattle.std.proofs.Common.{◌≡◌, ◌++◌, map, take}
use Rattle.std.specs.List.{filter}
use Rattle.ddt_organisations.specs.Meets.{seen, is_inside}
use Rattle.ddt_organisations.specs.Faults.{inside_at}
use Rattle.ddt_organisations.proofs.faults.push_inside.Given as goal

abbrev pub invariant-loop-zone : goal.invariant-loop-zone
invariant-loop-zone l = l.faults.items
    ≡ l.initial.faults.items ++ map (inside_at l.number) (filter (is_inside (seen l.organisation)) (take l.zone-index l.zone-items))
