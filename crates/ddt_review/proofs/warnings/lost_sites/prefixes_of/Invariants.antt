use Rattle.std.proofs.Common.{◌≡◌, ℕ, List, take}
use Rattle.std.specs.List.{list_any}
use Rattle.std.specs.Ordering.{nat_cmp}
use Rattle.std.specs.Cmp.Lexicographic.{slice_cmp}
use Rattle.std.specs.BTreeSet.{contains}
use Rattle.ddt_path.specs.Covers.{is_same_path}
use Rattle.ddt_register.specs.declared.site.Site.{Site}
use Rattle.ddt_review.proofs.warnings.lost_sites.prefixes_of.Given as goal

abbrev pub invariant-loop-site : goal.invariant-loop-site
invariant-loop-site l = (p : List ℕ) → contains (slice_cmp nat_cmp) l.kept p
    ≡ list_any (λ (s : Site). is_same_path p s.prefix) (take l.site-index l.sites)
