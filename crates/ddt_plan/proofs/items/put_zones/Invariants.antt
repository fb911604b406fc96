use Rattle.std.proofs.Common.{◌≡◌, ℕ, List, take}
use Rattle.std.specs.Ordering.{nat_cmp}
use Rattle.std.specs.Cmp.Lexicographic.{slice_cmp}
use Rattle.std.specs.BTreeMap.{get}
use Rattle.ddt_register.specs.declared.zone.Zone.{Zone}
use Rattle.ddt_plan.specs.declared.items.ServingGroup.{ServingGroup}
use Rattle.ddt_plan.specs.Tables.{put_at}
use Rattle.ddt_plan.proofs.TableLemmas.{value_in}
use Rattle.ddt_plan.proofs.items.put_zones.Given as goal

abbrev pub invariant-loop-zone : goal.invariant-loop-zone
invariant-loop-zone l = (k : List ℕ)
    → get (slice_cmp nat_cmp) l.all k ≡ put_at l.which (get (slice_cmp nat_cmp) l.fn.table k)
    (value_in (λ (z : Zone). z.prefix) (λ (z : Zone). let h : ServingGroup = record { kind = z.kind; group = z.group } in h) (take l.zone-index l.zone-items) k)
