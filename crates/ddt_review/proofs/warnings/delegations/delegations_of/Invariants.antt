use Rattle.std.proofs.Common.{◌≡◌, ℕ, false, List, take}
use Rattle.std.specs.Prelude.{◌&&◌}
use Rattle.std.specs.List.{list_any}
use Rattle.std.specs.Option.{option_map_or}
use Rattle.std.specs.Ordering.{nat_cmp}
use Rattle.std.specs.Cmp.Lexicographic.{slice_cmp}
use Rattle.std.specs.BTreeSet.{contains}
use Rattle.ddt_path.specs.Names.{is_same_name}
use Rattle.ddt_review.specs.Warnings.Warnings.{are_at_home, delegation_of}
use Rattle.ddt_review.proofs.warnings.delegations.delegations_of.Given as goal

abbrev pub invariant-loop-zone : goal.invariant-loop-zone
invariant-loop-zone l = record {
  hosts : (name : List ℕ) → contains (slice_cmp nat_cmp) l.hosts name
      ≡ list_any (λ z. option_map_or (λ d. are_at_home l.tree.register.now d && is_same_name name d.0)
      (delegation_of l.tree.register.now z) false) (take l.zone-index l.zone-items);
  guests : (name : List ℕ) → contains (slice_cmp nat_cmp) l.guests name
      ≡ list_any (λ z. option_map_or (λ d. are_at_home l.tree.register.now d && is_same_name name d.1)
      (delegation_of l.tree.register.now z) false) (take l.zone-index l.zone-items);
}
