use Rattle.std.proofs.Common.{◌≡◌, ℕ, List, take, find}
use Rattle.std.specs.Option.{option_map}
use Rattle.std.specs.Ordering.{nat_cmp}
use Rattle.std.specs.Cmp.Lexicographic.{slice_cmp}
use Rattle.std.specs.BTreeMap.{get}
use Rattle.ddt_path.specs.Names.{is_same_name}
use Rattle.ddt_register.specs.declared.group.Group.{Group}
use Rattle.ddt_review.specs.Faults.Told.{row_of_group}
use Rattle.ddt_review.proofs.faults.first_items.first_groups.Given as goal

abbrev pub invariant-loop-group : goal.invariant-loop-group
invariant-loop-group l =
    (name : List ℕ) → get (slice_cmp nat_cmp) l.first name
    ≡ option_map row_of_group (find (λ (g : Group). is_same_name g.name name) (take l.group-index l.groups))
