use Rattle.std.proofs.Common.{◌≡◌, ℕ, List}
use Rattle.std.specs.Ordering.{nat_cmp}
use Rattle.std.specs.Cmp.Lexicographic.{slice_cmp}
use Rattle.std.specs.BTreeMap.{get}
use Rattle.ddt_plan.specs.Versions.{joined_if}
use Rattle.ddt_plan.proofs.VersionLemmas.{found}
use Rattle.ddt_plan.proofs.versions.put_all.Given as goal

abbrev pub invariant-loop-config : goal.invariant-loop-config
invariant-loop-config l = (name : List ℕ)
    → get (slice_cmp nat_cmp) l.all name ≡ joined_if l.which (get (slice_cmp nat_cmp) l.initial.all name)
    (found l.yielded name)
