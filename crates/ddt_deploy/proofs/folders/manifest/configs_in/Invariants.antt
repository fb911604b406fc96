use Rattle.std.proofs.Common.{ℕ, List, map}
use Rattle.std.specs.Ordering.{nat_cmp}
use Rattle.std.specs.Cmp.Lexicographic.{slice_cmp}
use Rattle.std.specs.BTreeMap.{get}
use Rattle.ddt_deploy.proofs.FoldersLemmas.ManifestLemmas.{IsOfLines}
use Rattle.ddt_deploy.proofs.folders.manifest.configs_in.Given as goal

abbrev pub invariant-loop-line : goal.invariant-loop-line
invariant-loop-line l = (name : List ℕ)
    → IsOfLines (map (λ t. t.now) l.yielded) name (get (slice_cmp nat_cmp) l.listed name)
