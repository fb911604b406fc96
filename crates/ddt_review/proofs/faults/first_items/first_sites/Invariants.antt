use Rattle.std.proofs.Common.{◌≡◌, ℕ, List, take}
use Rattle.std.specs.Ordering.{nat_cmp}
use Rattle.std.specs.Cmp.Lexicographic.{slice_cmp}
use Rattle.std.specs.BTreeMap.{get}
use Rattle.ddt_path.specs.Covers.{is_same_path}
use Rattle.ddt_register.specs.declared.site.Site.{Site}
use Rattle.ddt_register.specs.Rows.{first_row}
use Rattle.ddt_review.proofs.faults.first_items.first_sites.Given as goal

abbrev pub invariant-loop-site : goal.invariant-loop-site
invariant-loop-site l =
    (p : List ℕ) → get (slice_cmp nat_cmp) l.first p
    ≡ first_row (λ (s : Site). s.row) (λ (s : Site). is_same_path s.prefix p) (take l.site-index l.sites)
