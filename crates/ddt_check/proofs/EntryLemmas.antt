-- Entries that are sorted by the numbers of their items, and then by the items.
use Rattle.std.proofs.Common.{◌≡◌, ◌⊎◌, ℕ, ◌+◌, ◌<◌, ◌≤◌, true, false, List, [], ◌∷◌, take, length, map, get_or, Ordering, Less, Equal, Greater, inl, inr, refl, sym, ap, ◌∙◌, arith}
use Rattle.std.specs.Prelude.{Bool, ◌==◌, ◌&&◌, ◌||◌, nat_lt, slice_set, IsSorted}
use Rattle.std.specs.List.Sorted.{IsPartitionedBy, IsPartitionPoint}
use Rattle.std.specs.Cmp.{nat_cmp_is}
use Rattle.std.specs.Ordering.{nat_cmp, is_lt, ordering_then, ordering_reverse}
use Rattle.std.specs.Cmp.Lexicographic.{slice_cmp, nat_list_cmp_total}
use Rattle.ddt_path.specs.Covers.{is_same_path}
use Rattle.ddt_path.specs.laws.PathOrder.{not_below_itself}
use Rattle.ddt_path.specs.laws.Cover.{same_path-flips}
use Rattle.std.proofs.lemmas.Bool.{false≢true, both_ways, false_from_ne_true, cases_lt, cases_eq, cases_order, lt-ltb, le-ltb, eq-eqb, ne_eqb}
use Rattle.std.proofs.lemmas.List.{length-map, get_or-map, get_or_default}
use Rattle.std.proofs.lemmas.Grind.{common_steps}
use Rattle.ddt_check.specs.Order.{in_order, IsInOrder}

-- two numbers that rise only with their keys
module _ (a b : List ℕ) (m n : ℕ) (up : m < n → is_lt (slice_cmp nat_cmp a b) ≡ true)
    (down : n < m → is_lt (slice_cmp nat_cmp b a) ≡ true) where
  -- where they differ they compare as the keys do
  front_cases : (m ≡ n) ⊎ (((m < n) × (slice_cmp nat_cmp a b ≡ Less)) ⊎ ((n < m) × (slice_cmp nat_cmp a b ≡ Greater)))
  front_cases = elim (cases_order m n) [
    | inl same ↦ inl same
    | inr differ ↦ elim differ [
      | inl lt ↦ inr (inl (lt, less_from (slice_cmp nat_cmp a b) (up lt)))
      | inr gt ↦ inr (inr (
        gt,
        nat_list_cmp_total.antisymm a b
            ∙ ap ordering_reverse (less_from (slice_cmp nat_cmp b a) (down gt)),
      ))
    ]
  ]
    where
      less_from : (o : Ordering) → is_lt o ≡ true → o ≡ Less
      less_from Less e = refl
      less_from Equal e = absurd (false≢true e)
      less_from Greater e = absurd (false≢true e)

  -- so do items of these keys
  pub by_front : (k : Ordering) → (nat_cmp m n ≡ Equal → ⊥) → nat_cmp m n ≡ ordering_then (slice_cmp nat_cmp a b) k
  by_front k apart = elim front_cases [
    | inl same ↦ absurd (apart (sym (nat_cmp_is m n Equal same)))
    | inr differ ↦ elim differ [
      | inl p ↦ rw (← nat_cmp_is m n Less p.0, p.1)
      | inr p ↦ rw (← nat_cmp_is m n Greater p.0, p.1)
    ]
  ]

  -- the same of a search for what stands before a key, or up to it
  pub passes_by_front : (passes : Ordering → Bool) → passes Less ≡ true → passes Greater ≡ false
      → (nat_lt m n || (m == n && passes (slice_cmp nat_cmp a b))) ≡ passes (slice_cmp nat_cmp a b)
  passes_by_front passes less greater = elim front_cases [
    | inl same ↦ rw (le-ltb m n (omega arith), eq-eqb m n same)
    | inr differ ↦ elim differ [
      | inl p ↦ rw (lt-ltb m n p.0, p.1, less)
      | inr p ↦ rw (le-ltb m n (omega arith), ne_eqb m n (λ e. omega arith), p.1, greater)
    ]
  ]

  -- the same of whether two keys are one
  pub same_by_front : (m == n && is_same_path a b) ≡ is_same_path a b
  same_by_front = elim (cases_eq m n) [
    | inl same ↦ rw (eq-eqb m n same)
    | inr differ ↦ rw (ne_eqb m n differ) (sym (false_from_ne_true (is_same_path a b) (λ e. elim (cases_lt m n) [
      | inl lt ↦ both_ways (is_lt (slice_cmp nat_cmp a b)) (not_below_itself a b e) (up lt)
      | inr ge ↦ both_ways (is_lt (slice_cmp nat_cmp b a)) (not_below_itself b a (same_path-flips a b e)) (down (omega arith))
    ])))
  ]

-- some item stands at a place
pub item_there : {A : Type 0} (xs : List A) (i : ℕ) → i < length xs → (x : A) × (x ≡ get_or xs i x)
item_there [] i lt = absurd (omega arith)
item_there (x ∷ xs) i lt = let y = get_or (x ∷ xs) i x in (y, get_or_default (x ∷ xs) i x y lt)

-- one more is written
pub one_more_written : {A : Type 0} (ys xs : List A) (i : ℕ) (x : A) → i < length xs → length xs ≡ length ys
    → x ≡ get_or ys i x → take i xs ≡ take i ys → take (i + 1) (slice_set xs i x) ≡ take (i + 1) ys
one_more_written ys xs i x lt n is so_far = grind (arith, common_steps)

module _ {E A : Type 0} (item : E → A) where
  -- what is sorted by its items has them sorted
  pub items_in_order : (key : A → List ℕ) (row : A → ℕ) (xs : List E)
      → IsSorted (λ x y. in_order key row (item x) (item y)) xs → IsInOrder key row (map item xs)
  items_in_order key row xs sorted = λ k d low lt.
      let inside : k + 1 < length xs = omega (arith, length-map xs item) in
      let x = (item_there xs (k + 1) inside).0 in
      rw (get_or-map item xs (k + 1) x d inside, get_or-map item xs k x d (omega arith)) (sorted k x low inside)

  -- the item of an entry, among the items
  pub item_is : (xs : List E) (i : ℕ) (e : E) (d : A) → i < length xs → e ≡ get_or xs i e
      → item e ≡ get_or (map item xs) i d
  item_is xs i e d lt is = ap item is ∙ sym (get_or-map item xs i e d lt)

  pub inside_items : (xs : List E) (i : ℕ) → i < length xs → i < length (map item xs)
  inside_items xs i lt = omega (arith, length-map xs item)

  pub past_items : (xs : List E) (i : ℕ) → length xs ≤ i → length (map item xs) ≤ i
  past_items xs i le = omega (arith, length-map xs item)

  -- a search by items is a search of the items
  pub point_of_items : (test : A → Bool) (xs : List E) (at : ℕ) → at ≤ length xs
      → (IsPartitionedBy (λ e. test (item e)) xs
      → IsPartitionPoint (λ e. test (item e) ≡ true) (λ e. test (item e) ≡ false) xs at)
      → IsPartitionedBy test (map item xs) → IsPartitionPoint (λ x. test x ≡ true) (λ x. test x ≡ false) (map item xs) at
  point_of_items test xs at le found parted =
      let point = found (λ i j d le inside e. rw (get_or-map item xs i d (item d) (omega arith)) at
      (parted i j (item d) le (inside_items xs j inside) (rw (get_or-map item xs j d (item d) inside) e))) in (
        λ k d low lt.
            let x = (item_there xs k (omega arith)).0 in
            rw (get_or-map item xs k x d (omega arith)) (point.0 k x low lt),
        λ k d low lt.
            let inside : k < length xs = omega (arith, length-map xs item) in
            let x = (item_there xs k inside).0 in
            rw (get_or-map item xs k x d inside) (point.1 k x low inside),
      )
