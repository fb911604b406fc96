use Rattle.std.proofs.Common.{◌≡◌, ℕ, List, take, find}
use Rattle.std.specs.Option.{option_map}
use Rattle.std.specs.Ordering.{nat_cmp}
use Rattle.std.specs.Cmp.Lexicographic.{slice_cmp}
use Rattle.std.specs.BTreeMap.{get}
use Rattle.ddt_register.specs.declared.group.Group.{Group}
use Rattle.ddt_path.specs.Names.{is_same_name}
use Rattle.ddt_compile.proofs.locators.locators_by_name.Given as goal

abbrev pub invariant-loop-group : goal.invariant-loop-group
invariant-loop-group l = (name : List ℕ)
    → get (slice_cmp nat_cmp) l.sets name
    ≡ option_map (λ (g : Group). g.locators) (find (λ (g : Group). is_same_name g.name name) (take l.group-index l.group-items))
