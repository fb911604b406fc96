use Rattle.std.proofs.Common.{◌≡◌, ℕ, List, take}
use Rattle.std.specs.List.{list_any}
use Rattle.std.specs.Ordering.{nat_cmp}
use Rattle.std.specs.Cmp.Lexicographic.{slice_cmp}
use Rattle.std.specs.BTreeSet.{contains}
use Rattle.ddt_path.specs.Names.{is_same_name}
use Rattle.ddt_plan.specs.declared.groups.GroupChange.{GroupChange}
use Rattle.ddt_organisations.proofs.seam.runs_by_group.changed_groups.Given as goal

abbrev pub invariant-loop-change : goal.invariant-loop-change
invariant-loop-change l = (name : List ℕ) → contains (slice_cmp nat_cmp) l.names name
    ≡ list_any (λ (c : GroupChange). is_same_name name c.name) (take l.change-index l.change-items)
