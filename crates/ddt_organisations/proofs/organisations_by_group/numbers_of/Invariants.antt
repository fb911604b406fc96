use Rattle.std.proofs.Common.{◌≡◌, ℕ, take}
use Rattle.std.specs.Prelude.{◌==◌}
use Rattle.std.specs.List.{list_any}
use Rattle.std.specs.Ordering.{nat_cmp}
use Rattle.std.specs.Cmp.Lexicographic.{slice_cmp}
use Rattle.std.specs.BTreeSet.{contains}
use Rattle.ddt_compile.specs.Lists.{list_at}
use Rattle.ddt_register.specs.declared.zone.Zone.{Zone}
use Rattle.ddt_organisations.proofs.organisations_by_group.numbers_of.Given as goal

abbrev pub invariant-loop-zone : goal.invariant-loop-zone
invariant-loop-zone l =
    (n : ℕ) → contains nat_cmp l.found n
    ≡ list_any (λ (z : Zone). list_any (λ k. k == n) (list_at (slice_cmp nat_cmp) l.runners z.group))
    (take l.zone-index l.zones)
