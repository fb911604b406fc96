-- How many a finite map has: an insert makes at most one more, a remove no more.
use Rattle.std.proofs.Common.{◌≡◌, ℕ, ◌+◌, ◌-◌, ◌≤◌, Bool, true, false, cond, Ordering, arith}
use Rattle.std.specs.Cmp.{IsTotalOrder}
use Rattle.std.specs.FinMap.{FinMap, insert, remove, len, contains_key, len-insert, len-remove}

one_more : (b : Bool) (n : ℕ) → cond b n (n + 1) ≤ n + 1
one_more true n = omega arith
one_more false n = omega arith

one_less : (b : Bool) (n : ℕ) → cond b (n - 1) n ≤ n
one_less true n = omega arith
one_less false n = omega arith

module _ {K V : Type 0} {R : K → K → Ordering} (order : IsTotalOrder R) (m : FinMap R V) (k : K) where
  pub len_inserted : (v : V) → len (insert m k v) ≤ len m + 1
  len_inserted v =
      let e : len (insert m k v) ≡ cond (contains_key m k) (len m) (len m + 1) = len-insert order m k v in
      omega (arith, one_more (contains_key m k) (len m))

  pub len_removed : len (remove m k) ≤ len m
  len_removed =
      let e : len (remove m k) ≡ cond (contains_key m k) (len m - 1) (len m) = len-remove order m k in
      omega (arith, one_less (contains_key m k) (len m))
