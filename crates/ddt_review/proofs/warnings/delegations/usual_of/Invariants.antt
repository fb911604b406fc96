use Rattle.std.proofs.Common.{◌≡◌, ℕ, List, take}
use Rattle.std.specs.Prelude.{nat_lt}
use Rattle.std.specs.List.{count_by}
use Rattle.std.specs.BTreeSet.{contains}
use Rattle.ddt_review.specs.Warnings.Found.{pair_cmp}
use Rattle.ddt_review.specs.Warnings.Warnings.{is_delegated}
use Rattle.ddt_review.proofs.warnings.delegations.usual_of.Given as goal

abbrev pub invariant-loop-zone : goal.invariant-loop-zone
invariant-loop-zone l = record {
  seen : (k : List ℕ × List ℕ) → contains pair_cmp l.seen k
      ≡ nat_lt 0 (count_by (is_delegated l.tree.register.now k) (take l.zone-index l.zone-items));
  usual : (k : List ℕ × List ℕ) → contains pair_cmp l.usual k
      ≡ nat_lt 1 (count_by (is_delegated l.tree.register.now k) (take l.zone-index l.zone-items));
}
