use Rattle.std.proofs.Common.{◌≡◌, ℕ, List, map, take}
use Rattle.std.specs.Ordering.{nat_cmp}
use Rattle.std.specs.Cmp.Lexicographic.{slice_cmp}
use Rattle.std.specs.BTreeSet.{contains}
use Rattle.ddt_organisations.specs.Seam.Seam.{run_of}
use Rattle.ddt_organisations.proofs.seam.runs_by_group.group_runs.Given as goal

abbrev pub invariant-loop-group : goal.invariant-loop-group
invariant-loop-group l = l.runs.items
    ≡ map (run_of (λ (name : List ℕ). contains (slice_cmp nat_cmp) l.foreign name) l.ours l.theirs l.joined)
    (take l.group-index l.group-items)
