use Rattle.std.proofs.Common.{◌≡◌, ℕ, List, take}
use Rattle.std.specs.Ordering.{nat_cmp}
use Rattle.std.specs.Cmp.Lexicographic.{slice_cmp}
use Rattle.std.specs.BTreeMap.{get}
use Rattle.ddt_register.specs.declared.group.Group.{Group}
use Rattle.ddt_plan.specs.declared.items.GroupServers.{GroupServers}
use Rattle.ddt_plan.specs.Tables.{put_at}
use Rattle.ddt_plan.proofs.TableLemmas.{value_in}
use Rattle.ddt_plan.proofs.items.put_groups.Given as goal

abbrev pub invariant-loop-group : goal.invariant-loop-group
invariant-loop-group l = (k : List ℕ)
    → get (slice_cmp nat_cmp) l.all k ≡ put_at l.which (get (slice_cmp nat_cmp) l.fn.table k)
    (value_in (λ (g : Group). g.name) (λ (g : Group). let h : GroupServers = record { kind = g.kind; locators = g.locators } in h) (take l.group-index l.group-items) k)
