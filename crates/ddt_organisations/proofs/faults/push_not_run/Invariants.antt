use Rattle.std.proofs.Common.{◌≡◌, ◌++◌, map, take, length}
use Rattle.std.specs.Prelude.{◌==◌}
use Rattle.std.specs.List.{filter}
use Rattle.std.specs.Ordering.{nat_cmp}
use Rattle.std.specs.Cmp.Lexicographic.{slice_cmp}
use Rattle.ddt_compile.specs.Lists.{list_at}
use Rattle.ddt_register.specs.declared.zone.Zone.{Zone}
use Rattle.ddt_organisations.specs.Faults.{nobody_at}
use Rattle.ddt_organisations.proofs.faults.push_not_run.Given as goal

abbrev pub invariant-loop-zone : goal.invariant-loop-zone
invariant-loop-zone l = l.faults.items ≡ l.initial.faults.items ++ map (nobody_at l.number)
    (filter (λ (z : Zone). length (list_at (slice_cmp nat_cmp) l.runners z.group) == 0) (take l.zone-index l.zone-items))
