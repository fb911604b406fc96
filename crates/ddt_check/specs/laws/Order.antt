-- Lists sorted by a key and then by row: what stands between, and what is found beside an item.
use Rattle.std.proofs.Common.{◌≡◌, ℕ, ◌+◌, ◌<◌, ◌≤◌, Bool, true, false, cond, ltb, List, length, get_or, IsPermutation, Ordering, Less, Equal, Greater, inl, inr, refl, ap, subst, ◌∙◌, arith}
use Rattle.std.specs.Prelude.{◌==◌, ◌&&◌, nat_lt}
use Rattle.std.specs.Ordering.{nat_cmp, is_lt, is_eq, ordering_then, ordering_reverse}
use Rattle.std.specs.Cmp.{IsTotalOrder, then_total, on_total, nat_cmp_total}
use Rattle.std.specs.Cmp.Lexicographic.{slice_cmp, texts_ties, nat_list_cmp_total, bytes_decides}
use Rattle.std.proofs.lemmas.Bool.{true≢false, both_ways, false_from_ne_true, and_parts, and_from, eqb-false, ltb-true, ltb-false, lt-ltb, cases_lt}
use Rattle.std.proofs.lemmas.List.Sorted.{sorted_far, ranks_by}
use Rattle.ddt_path.specs.Covers.{is_same_path}
use Rattle.ddt_check.specs.Rules.{is_duplicate}
use Rattle.ddt_check.specs.Order.{in_order, IsInOrder}
use Rattle.ddt_path.specs.laws.Member.{placed, placed_in, any_in, in_any, iff_same}
use Rattle.ddt_path.specs.laws.Cover.{same_path-flips}
use Rattle.ddt_path.specs.laws.PathOrder.{IsUpTo, is_same_path-between}
use Rattle.ddt_register.specs.laws.RowOrder.{Rising, rows_apart}

-- ---- lists in order

lt_part : (less same : Bool) → is_lt (cond less Less (cond same Equal Greater)) ≡ false → less ≡ false
lt_part true same h = h
lt_part false same h = refl

module _ {A : Type 0} (key : A → List ℕ) (row : A → ℕ) where
  pub in_order_total : IsTotalOrder (in_order key row)
  in_order_total = then_total (on_total key nat_list_cmp_total) (on_total row nat_cmp_total)

  order_cases : (a b : A) (o : Ordering) → slice_cmp nat_cmp (key b) (key a) ≡ o
      → is_lt (ordering_then o (nat_cmp (row b) (row a))) ≡ false
      → IsUpTo (key a) (key b) × (is_same_path (key a) (key b) ≡ true → row a ≤ row b)
  order_cases a b Less e h = absurd (true≢false h)
  order_cases a b Equal e h = (
    ap is_lt e,
    λ same. ltb-false (row b) (row a)
        (lt_part (ltb (row b) (row a)) (row b == row a) h),
  )
  order_cases a b Greater e h = (
    ap is_lt e,
    λ same. absurd (both_ways (is_same_path (key a) (key b))
        (texts_ties (key a) (key b) ∙ ap is_eq (nat_list_cmp_total.antisymm (key a) (key b) ∙ ap ordering_reverse
        e)) same),
  )

  module _ (xs : List A) (sorted : IsInOrder key row xs) where
    -- of two places the later has no lower key, and no lower row where the keys are one
    pub far : (i j : ℕ) (d : A) → i ≤ j → j < length xs
        → IsUpTo (key (get_or xs i d)) (key (get_or xs j d)) × (is_same_path (key (get_or xs i d)) (key (get_or xs j d)) ≡ true → row (get_or xs i d) ≤ row (get_or xs j d))
    far i j d le inside =
        order_cases (get_or xs i d) (get_or xs j d) _ refl (sorted_far (λ x y. is_lt (in_order key row x y))
        (ranks_by in_order_total (λ x. x)) xs sorted i j d le inside)

    module _ (zs : List A) (up : Rising row zs) (moved : IsPermutation zs xs) where
      -- the neighbour before, where its key is the same
      pub beside-earlier : (at : ℕ) (d : A) → at + 1 < length xs
          → is_same_path (key (get_or xs at d)) (key (get_or xs (at + 1) d)) ≡ true
          → is_duplicate key row zs (get_or xs (at + 1) d) ≡ true
      beside-earlier at d inside same =
          let y = get_or xs at d in
          let x = get_or xs (at + 1) d in
          let le = (far at (at + 1) d (omega arith) inside).1 same in
          let ne = eqb-false _ _ (rows_apart row zs xs up moved at (at + 1) d (omega arith) inside) in
          let k = placed_in zs xs moved at d (omega arith) in
          in_any (λ y. nat_lt (row y) (row x) && is_same_path (key y) (key x)) zs y k
          (and_from (nat_lt (row y) (row x)) (is_same_path (key y) (key x)) (lt-ltb (row y) (row x) (omega arith))
          same)

      -- an earlier one of the same key sorts before, and the neighbour before has the key too
      earlier-place : (at : ℕ) (d : A) → at < length xs → is_duplicate key row zs (get_or xs at d) ≡ true
          → (j : ℕ) × (j < at) × (is_same_path (key (get_or xs j d)) (key (get_or xs at d)) ≡ true)
      earlier-place at d inside e =
          let x = get_or xs at d in
          let f = any_in (λ y. nat_lt (row y) (row x) && is_same_path (key y) (key x)) zs e in
          let p = and_parts (nat_lt (row f.0) (row x)) (is_same_path (key f.0) (key x)) f.2 in
          let c = placed zs xs moved f.0 f.1 d in
          let same : is_same_path (key (get_or xs c.0 d)) (key x) ≡ true = subst
          (λ (y : A). is_same_path (key y) (key x) ≡ true) c.2 p.1 in
          let lower : row (get_or xs c.0 d) < row x = subst (λ (y : A). row y < row x) c.2 (ltb-true (row f.0) (row x) p.0) in
          elim (cases_lt c.0 at) [
            | inl before ↦ (c.0, before, same)
            | inr behind ↦ absurd (let le = (far at c.0 d behind c.1).1
                (same_path-flips (key (get_or xs c.0 d)) (key x) same) in omega arith)
          ]

      -- whether an earlier row has the key, by the neighbour before
      pub duplicate-beside : (at : ℕ) (d : A) → at + 1 < length xs
          → is_same_path (key (get_or xs at d)) (key (get_or xs (at + 1) d)) ≡ is_duplicate key row zs (get_or xs (at + 1) d)
      duplicate-beside at d inside =
          iff_same (is_same_path (key (get_or xs at d)) (key (get_or xs (at + 1) d)))
          (is_duplicate key row zs (get_or xs (at + 1) d))
          (beside-earlier at d inside)
          (λ e.
          let p = earlier-place (at + 1) d inside e in
          let a = key (get_or xs p.0 d) in
          let b = key (get_or xs at d) in
          let c = key (get_or xs (at + 1) d) in
          let low : p.0 ≤ at = omega (arith, p.1) in
          let up = (far p.0 at d low (omega arith)).0 in
          let down = (far at (at + 1) d (omega arith) inside).0 in
          let across = (far p.0 (at + 1) d (omega arith) inside).0 in
          let first : a ≡ b = (bytes_decides a b).0 (is_same_path-between a b c up down across p.2) in
          subst (λ (k : List ℕ). is_same_path k c ≡ true) first p.2)

      pub duplicate-first : (d : A) → 0 < length xs → is_duplicate key row zs (get_or xs 0 d) ≡ false
      duplicate-first d inside = false_from_ne_true (is_duplicate key row zs (get_or xs 0 d))
          (λ e. let p = earlier-place 0 d inside e in absurd (omega (arith, p.1)))
