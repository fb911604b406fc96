use Rattle.std.proofs.Common.{◌≡◌, take, not, Some}
use Rattle.std.specs.Prelude.{◌&&◌}
use Rattle.std.specs.List.{list_any}
use Rattle.std.specs.Ordering.{nat_cmp}
use Rattle.std.specs.Cmp.Lexicographic.{slice_cmp}
use Rattle.std.specs.BTreeSet.{contains}
use Rattle.ddt_path.specs.Names.{is_same_name}
use Rattle.ddt_path.specs.laws.Member.{IsIn}
use Rattle.ddt_register.specs.declared.zone.Zone.{Zone}
use Rattle.ddt_check.specs.Zones.{is_direct_child}
use Rattle.ddt_review.specs.Warnings.Warnings.{zone_above}
use Rattle.ddt_review.proofs.warnings.children.children_of.Given as goal

abbrev pub invariant-loop-zone : goal.invariant-loop-zone
invariant-loop-zone l = record {
  parents : (z : Zone) → IsIn z l.tree.register.now.zones → contains (slice_cmp nat_cmp) l.parents z.prefix
      ≡ list_any (is_direct_child l.tree.register.now z) (take l.zone-index l.zone-items);
  mixed : (z q : Zone) → IsIn z l.tree.register.now.zones → zone_above l.tree.register.now z ≡ Some q
      → contains (slice_cmp nat_cmp) l.mixed z.prefix
      ≡ list_any (λ c. is_direct_child l.tree.register.now z c && not (is_same_name c.group q.group)) (take l.zone-index l.zone-items);
}
