-- The least row at which a test of a list's items holds: with one more item, in another order, and where rows rise.
use Rattle.std.proofs.Common.{◌≡◌, ℕ, ◌+◌, ◌<◌, ◌≤◌, Bool, true, false, List, take, length, get_or, find, min, IsPermutation, Option, Some, None, inl, inr, refl, sym, ◌∙◌, arith}
use Rattle.std.specs.Prelude.{◌==◌, ◌&&◌, ◌||◌, if◌then◌else◌}
use Rattle.std.specs.List.{list_any}
use Rattle.std.specs.Option.{option_map, option_map_or}
use Rattle.std.proofs.lemmas.Bool.{cases_lt, eq-eqb, eqb-true, ne_eqb, or_from, or_left, or_right, and_parts, and_right, false_from_ne_true}
use Rattle.std.proofs.lemmas.List.{take_all}
use Rattle.std.proofs.lemmas.List.Folds.{list_any_more}
use Rattle.std.proofs.lemmas.List.Sorted.{list_any-IsPermutation}
use Rattle.ddt_path.specs.laws.Member.{in_any, any_in, none_of, found_in, found_passes, unfound}
use Rattle.ddt_register.specs.Rows.{first_row}
use Rattle.ddt_register.specs.laws.RowOrder.{Rising, first_found}
use Rattle.ddt_check.specs.Rules.{IsLeastRow, item_at}

IsLeastRow-same : (t u : ℕ → Bool) (found : Option ℕ) → ((n : ℕ) → t n ≡ u n) → IsLeastRow u found → IsLeastRow t found
IsLeastRow-same t u None same h = λ n. same n ∙ h n
IsLeastRow-same t u (Some row) same h = (same row ∙ h.0, λ n lt. same n ∙ h.1 n lt)

-- the lower of two rows, where there are any
abbrev lower_option : Option ℕ → Option ℕ → Option ℕ
lower_option a b = option_map_or (λ row. Some (option_map_or (λ l. min l row) b row)) a b

lower_swap : (a b : Option ℕ) → lower_option a b ≡ lower_option b a
lower_swap None None = refl
lower_swap None (Some y) = refl
lower_swap (Some x) None = refl
lower_swap (Some x) (Some y) = let same : min y x ≡ min x y = omega arith in rw same

-- the least row of either test
pub least_both : (t u : ℕ → Bool) (a b : Option ℕ) → IsLeastRow t a → IsLeastRow u b
    → IsLeastRow (λ n. t n || u n) (lower_option a b)
least_both t u None b h k = IsLeastRow-same (λ n. t n || u n) u b (λ n. rw (h n)) k
least_both t u (Some x) None h k = (rw h.0, λ n lt. or_from (t n) (u n) (h.1 n lt) (k n))
least_both t u (Some x) (Some y) h k = (
  elim (cases_lt x y) [
    | inl less ↦ let m : min y x ≡ x = omega arith in rw m (or_left (t x) (u x) h.0)
    | inr more ↦ let m : min y x ≡ y = omega arith in rw m (or_right (t y) (u y) k.0)
  ],
  λ n lt. or_from (t n) (u n) (h.1 n (omega arith)) (k.1 n (omega arith)),
)

-- the least row of a test that each item gives
module _ {A : Type 0} (at : A → ℕ → Bool) where
  abbrev pub any_at : List A → ℕ → Bool
  any_at xs n = list_any (λ x. at x n) xs

  pub least_next : (xs : List A) (i : ℕ) (x : A) (least found low : Option ℕ) → i < length xs → x ≡ get_or xs i x
      → IsLeastRow (at x) found → low ≡ lower_option least found
      → IsLeastRow (any_at (take i xs)) least → IsLeastRow (any_at (take (i + 1) xs)) low
  least_next xs i x least found low lt is here lows so_far = rw lows (IsLeastRow-same (any_at (take (i + 1) xs))
      (λ n. any_at (take i xs) n || at x n) (lower_option least found)
      (λ n. rw (← is) at (list_any_more (λ z. at z n) xs i x lt))
      (least_both (any_at (take i xs)) (at x) least found so_far here))

  -- in another order of the items, after a walk over all
  pub least_of_all : (xs ys : List A) (n : ℕ) (least : Option ℕ) → IsPermutation xs ys → length ys ≤ n
      → IsLeastRow (any_at (take n ys)) least → IsLeastRow (any_at xs) least
  least_of_all xs ys n least moved high so_far = IsLeastRow-same (any_at xs) (any_at ys) least
      (λ m. list_any-IsPermutation (λ z. at z m) xs ys moved) (rw (take_all n ys high) at so_far)

module _ {A : Type 0} (row : A → ℕ) (test : A → Bool) where
  abbrev pub passes_at : A → ℕ → Bool
  passes_at x n = row x == n && test x

  -- with one more item, that may pass
  pub least_if : (xs : List A) (i : ℕ) (x : A) (least low : Option ℕ) (counts : Bool) → i < length xs
      → x ≡ get_or xs i x → counts ≡ test x
      → low ≡ (if counts then Some (option_map_or (λ l. min l (row x)) least (row x)) else least)
      → IsLeastRow (item_at row test (take i xs)) least → IsLeastRow (item_at row test (take (i + 1) xs)) low
  least_if xs i x least low true lt is e lows = least_next passes_at xs i x least (Some (row x)) low lt is
      (rw (eq-eqb (row x) (row x) refl, ← e), λ n less. rw (ne_eqb (row x) n (λ same. omega arith)))
      (lows ∙ lower_swap (Some (row x)) least)
  least_if xs i x least low false lt is e lows = least_next passes_at xs i x least None low lt is
      (λ n. and_right (row x == n) (test x) (sym e)) (lows ∙ lower_swap None least)

  -- where rows rise, the first item that passes stands in the least row
  pub least_item : (xs : List A) → Rising row xs → IsLeastRow (item_at row test xs) (first_row row test xs)
  least_item xs up =
      elim (find test xs) as (λ o. find test xs ≡ o → IsLeastRow (item_at row test xs) (option_map row o)) [
        | None ↦ λ e n. none_of (λ x. passes_at x n) xs (λ x k. and_right (row x == n) (test x) (unfound test xs x e k))
        | Some z ↦ λ e. (
          in_any (λ x. passes_at x (row z)) xs z (found_in test xs z e)
              (rw (eq-eqb (row z) (row z) refl, found_passes test xs z e)),
          λ n lt. false_from_ne_true (item_at row test xs n) (λ q.
              let y = any_in (λ x. passes_at x n) xs q in
              let p = and_parts (row y.0 == n) (test y.0) y.2 in
              let first = first_found row test xs y.0 up y.1 p.1 in
              let same : z ≡ first.0 = cc (e, first.1) in
              let le : row z ≤ row y.0 = rw same first.2 in
              absurd (omega (arith, eqb-true (row y.0) n p.0))),
        )
      ] refl
