use Rattle.std.proofs.Common.{◌≡◌, ℕ, List, take, find}
use Rattle.std.specs.Option.{option_map}
use Rattle.std.specs.Ordering.{nat_cmp}
use Rattle.std.specs.Cmp.Lexicographic.{slice_cmp}
use Rattle.std.specs.BTreeMap.{get}
use Rattle.ddt_path.specs.Covers.{is_same_path}
use Rattle.ddt_register.specs.declared.site.Site.{Site}
use Rattle.ddt_organisations.proofs.seam.items_by_key.etrs_by_prefix.Given as goal

abbrev pub invariant-loop-site : goal.invariant-loop-site
invariant-loop-site l = (k : List ℕ)
    → get (slice_cmp nat_cmp) l.known k
    ≡ option_map (λ (s : Site). s.etrs) (find (λ (a : Site). is_same_path a.prefix k) (take l.site-index l.site-items))
