-- What is found in a map from numbers after an insert and a remove.
use Rattle.std.proofs.Common.{◌≡◌, ℕ, ◌+◌, Bool, cond, true, false, Option, Some, None, refl, sym, ap, ◌∙◌, inl, inr, ◌⊎◌, nat_cmp, eq-eqb}
use Rattle.std.specs.Prelude.{◌≢◌, ◌==◌, is_some}
use Rattle.std.specs.Cmp.{nat_cmp_total, unsigned_tied}
use Rattle.std.specs.FinMap.{FinMap, get, insert, remove, len, contains_key, get-insert, get-remove, len-insert, same_map, nat_cmp-IsAntisymmetric}
use Rattle.std.proofs.lemmas.Bool.{cond-true, cond-false, eqb-true, cases_eq}

-- numbers that differ don't pass for one
pub not_same : (a b : ℕ) → a ≢ b → (a == b) ≡ false
not_same a b other = by (a == b) refl
  where
    by : (c : Bool) → (a == b) ≡ c → (a == b) ≡ false
    by true e = absurd (other (eqb-true a b e))
    by false e = e

module _ {V : Type 0} (m : FinMap nat_cmp V) (k : ℕ) where
  pub at_insert : (v : V) (q : ℕ) → get (insert m k v) q ≡ cond (q == k) (Some v) (get m q)
  at_insert v q = get-insert nat_cmp_total m k v q ∙ ap (λ b. cond b (Some v) (get m q)) (unsigned_tied q k)

  pub at_remove : (q : ℕ) → get (remove m k) q ≡ cond (q == k) None (get m q)
  at_remove q = get-remove nat_cmp_total m k q ∙ ap (λ b. cond b None (get m q)) (unsigned_tied q k)

  pub get-insert_same : (v : V) → get (insert m k v) k ≡ Some v
  get-insert_same v = at_insert v k ∙ cond-true (k == k) (Some v) (get m k) (eq-eqb k k refl)

  pub get-remove_same : get (remove m k) k ≡ None
  get-remove_same = at_remove k ∙ cond-true (k == k) None (get m k) (eq-eqb k k refl)

  pub get-insert_other : (v : V) (q : ℕ) → q ≢ k → get (insert m k v) q ≡ get m q
  get-insert_other v q other = at_insert v q ∙ cond-false (q == k) (Some v) (get m q) (not_same q k other)

  pub get-remove_other : (q : ℕ) → q ≢ k → get (remove m k) q ≡ get m q
  get-remove_other q other = at_remove q ∙ cond-false (q == k) None (get m q) (not_same q k other)

  -- what is found after an insert is what was inserted, or was there at another key
  pub found_insert : (v : V) (q : ℕ) (w : V) → get (insert m k v) q ≡ Some w → ((q ≡ k) × (v ≡ w)) ⊎ ((q ≢ k) × (get m q ≡ Some w))
  found_insert v q w found = elim (cases_eq q k) [
    | inl same ↦ inl (same, cc (get-insert_same v))
    | inr other ↦ inr (other, sym (get-insert_other v q other) ∙ found)
  ]

  pub found_remove : (q : ℕ) (w : V) → get (remove m k) q ≡ Some w → (q ≢ k) × (get m q ≡ Some w)
  found_remove q w found = elim (cases_eq q k) [
    | inl same ↦ cc get-remove_same
    | inr other ↦ (other, sym (get-remove_other q other) ∙ found)
  ]

  -- how many there are: one that is there makes no more, any other one more
  pub len_replaced : (v w : V) → get m k ≡ Some w → len (insert m k v) ≡ len m
  len_replaced v w found = len-insert nat_cmp_total m k v ∙ cond-true (contains_key m k) (len m) (len m + 1) (ap (λ (o : Option V). is_some o) found)

-- two maps that answer alike are one
pub same_numbers : {V : Type 0} (m n : FinMap nat_cmp V) → ((q : ℕ) → get m q ≡ get n q) → m ≡ n
same_numbers m n = same_map nat_cmp_total nat_cmp-IsAntisymmetric m n
