-- The first item of a key in a list whose rows rise, by the place where a search of the sorted list ends.
use Rattle.std.proofs.Common.{◌≡◌, ℕ, ◌<◌, ◌≤◌, Bool, true, false, List, length, get_or, IsPermutation, find, Some, None, inl, inr, sym, ◌∙◌, arith}
use Rattle.std.specs.List.Sorted.{IsPartitionedBy, IsPartitionPoint}
use Rattle.std.specs.Ordering.{nat_cmp, is_lt}
use Rattle.std.specs.Cmp.Lexicographic.{slice_cmp}
use Rattle.std.proofs.lemmas.Bool.{both_ways, false_from_ne_true, cases_lt}
use Rattle.ddt_path.specs.Covers.{is_same_path}
use Rattle.ddt_path.specs.laws.Cover.{same_path, path_itself}
use Rattle.ddt_check.specs.Order.{IsInOrder}
use Rattle.ddt_path.specs.laws.Member.{IsIn, placed, placed_in, found_none}
use Rattle.ddt_register.specs.laws.RowOrder.{Rising, found_first}
use Rattle.ddt_check.specs.laws.Order.{far}
use Rattle.ddt_path.specs.laws.PathOrder.{IsUpTo, lt_after, same_from_ties, not_below_itself}

module _ {A : Type 0} (key : A → List ℕ) (row : A → ℕ) (xs : List A) (sorted : IsInOrder key row xs) (name : List ℕ)
  where
    abbrev pub is_below : A → Bool
    is_below x = is_lt (slice_cmp nat_cmp (key x) name)

    abbrev pub has_key : A → Bool
    has_key x = is_same_path (key x) name

    pub parted : IsPartitionedBy is_below xs
    parted = λ i j d le inside e. lt_after (key (get_or xs i d)) (key (get_or xs j d)) name
        (far key row xs sorted i j d le inside).0 e

    module _ (zs : List A) (up : Rising row zs) (moved : IsPermutation zs xs) (at : ℕ)
        (point : IsPartitionPoint (λ x. is_below x ≡ true) (λ x. is_below x ≡ false) xs at) where
      -- an item of the key stands at that place or later
      placed_from : (h : A) → IsIn h zs → has_key h ≡ true → (d : A)
          → (k : ℕ) × (at ≤ k) × (k < length xs) × (h ≡ get_or xs k d)
      placed_from h k e d =
          let c = placed zs xs moved h k d in
          elim (cases_lt c.0 at) [
            | inl before ↦ absurd (both_ways (is_below h) (not_below_itself (key h) name e)
                (rw (← c.2) at (point.0 c.0 d (omega arith) before)))
            | inr behind ↦ (c.0, behind, c.1, c.2)
          ]

      pub found_key : (d : A) → at < length xs → has_key (get_or xs at d) ≡ true → find has_key zs ≡ Some (get_or xs at d)
      found_key d inside e =
          let g = get_or xs at d in
          found_first row has_key zs g up (placed_in zs xs moved at d inside) e
          (λ h k lt. false_from_ne_true (has_key h) (λ f.
          let p = placed_from h k f d in
          let one : key g ≡ key h = same_path (key g) name e ∙ sym (same_path (key h) name f) in
          let le : row g ≤ row h = (rw (← p.3) at (far key row xs sorted at p.0 d p.1 p.2)).1
          (path_itself (key g) (key h) one) in
          absurd (omega arith)))

      pub no_key : ((d : A) → at < length xs → has_key (get_or xs at d) ≡ false) → find has_key zs ≡ None
      no_key none = found_none has_key zs (λ h k. false_from_ne_true (has_key h) (λ e.
          let p = placed_from h k e h in
          let inside : at < length xs = omega (arith, p.1, p.2) in
          let g = get_or xs at h in
          let up_to : IsUpTo (key g) (key h) = (rw (← p.3) at (far key row xs sorted at p.0 h p.1 p.2)).0 in
          both_ways (has_key g) (none h inside) (same_from_ties (key g) name (rw (same_path (key h) name e) at up_to)
          (point.1 at h (omega arith) inside))))
