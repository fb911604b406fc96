-- What `is_sorted` says of prefixes.
use Rattle.std.proofs.Common.{◌≡◌, ℕ, ◌+◌, true, false, List, length, get_or, Ordering, Less, Equal, Greater, Some, refl, ap, ◌∙◌}
use Rattle.std.specs.List.{AllAdjacentBelow}
use Rattle.std.specs.List.Sorted.{IsSorted}
use Rattle.std.specs.Ordering.{nat_cmp, is_le, is_lt, is_some_and, ordering_reverse}
use Rattle.std.specs.Cmp.Lexicographic.{slice_cmp, nat_list_cmp_total}
use Rattle.std.proofs.lemmas.Bool.{false≢true}

not_after : (o : Ordering) → is_le o ≡ true → is_lt (ordering_reverse o) ≡ false
not_after Less h = refl
not_after Equal h = refl
not_after Greater h = absurd (false≢true h)

pub in_order : (xs : List (List ℕ))
    → AllAdjacentBelow (λ x y. is_some_and is_le (Some (slice_cmp nat_cmp x y)) ≡ true) xs (length xs)
    → IsSorted (slice_cmp nat_cmp) xs
in_order xs h =
    λ k d low inside. let a = get_or xs k d in let b = get_or xs (k + 1) d in
    ap is_lt (nat_list_cmp_total.antisymm b a) ∙ not_after (slice_cmp nat_cmp a b) (h k d inside)
