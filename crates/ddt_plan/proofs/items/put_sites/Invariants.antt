use Rattle.std.proofs.Common.{◌≡◌, ℕ, List, take}
use Rattle.std.specs.Ordering.{nat_cmp}
use Rattle.std.specs.Cmp.Lexicographic.{slice_cmp}
use Rattle.std.specs.BTreeMap.{get}
use Rattle.ddt_register.specs.declared.site.Site.{Site}
use Rattle.ddt_plan.specs.Tables.{put_at}
use Rattle.ddt_plan.proofs.TableLemmas.{value_in}
use Rattle.ddt_plan.proofs.items.put_sites.Given as goal

abbrev pub invariant-loop-site : goal.invariant-loop-site
invariant-loop-site l = (k : List ℕ)
    → get (slice_cmp nat_cmp) l.all k ≡ put_at l.which (get (slice_cmp nat_cmp) l.fn.table k)
    (value_in (λ (s : Site). s.prefix) (λ (s : Site). s.etrs) (take l.site-index l.site-items) k)
