-- Items in the order of their prefixes: where the one of a prefix stands, and where all that is strictly below it.
use Rattle.std.proofs.Common.{◌≡◌, ℕ, zero, suc, ◌+◌, ◌<◌, ◌≤◌, Bool, true, false, cond, not, List, [], ◌∷◌, length, take, drop, get_or, find, IsPermutation, Some, None, inl, inr, refl, sym, ap, subst, ◌∙◌, arith}
use Rattle.std.specs.Prelude.{◌&&◌}
use Rattle.std.specs.List.{filter}
use Rattle.std.specs.List.Sorted.{IsPartitionedBy, IsPartitionPoint}
use Rattle.std.specs.Ordering.{nat_cmp, is_lt, is_le}
use Rattle.std.specs.Cmp.Lexicographic.{slice_cmp, nat_list_cmp_total}
use Rattle.std.proofs.lemmas.Bool.{cond-true, cond-false, cases_lt, both_ways, false_from_ne_true, true_from_ne_false}
use Rattle.std.proofs.lemmas.List.{get_or_default, get_or-drop}
use Rattle.std.proofs.lemmas.List.Kept.{IsSortedBy-filter}
use Rattle.std.proofs.lemmas.List.Sorted.{IsPermutation-sym, sorted_far, ranks_by}
use Rattle.ddt_path.specs.Covers.{covers, is_same_path, is_strictly_below}
use Rattle.ddt_path.specs.laws.Cover.{below_is, same_path-flips}
use Rattle.ddt_path.specs.laws.Filter.{in_filter, filter_in, none_later}
use Rattle.ddt_path.specs.laws.Member.{IsIn, contained, moved_in, found_none}
use Rattle.ddt_path.specs.laws.PathOrder.{IsUpTo, covers-between, covers-back, covers-up_to, le-is, le-from, up_to_trans, not_lt-from_not_le, not_below_itself, is_same_path-between, below_behind}
use Rattle.ddt_plan.specs.Fast.{AreInOrder, AreBelow}

-- ---- lists

-- where none of the first items passes, and the next one does, that one is found
pub first_found : {A : Type 0} (test : A → Bool) (xs : List A) (i : ℕ) (w : A)
    → ((k : ℕ) (d : A) → k < i → k < length xs → test (get_or xs k d) ≡ false)
    → i < length xs → w ≡ get_or xs i w → test w ≡ true → find test xs ≡ Some w
first_found test [] i w h inside is e = absurd (omega arith)
first_found test (x ∷ xs) zero w h inside is e =
    subst (λ (y : _). cond (test y) (Some y) (find test xs) ≡ Some w) is (cond-true (test w) (Some w) (find test xs) e)
first_found test (x ∷ xs) (suc i) w h inside is e =
    cond-false (test x) (Some x) (find test xs) (h 0 x (omega arith) (omega arith))
    ∙ first_found test xs i w (λ k d lt le. h (suc k) d (omega arith) (omega arith)) (omega arith) is e

-- where none of the first items passes, the others are enough
skip_first : {A : Type 0} (test : A → Bool) (xs : List A) (i : ℕ)
    → ((k : ℕ) (d : A) → k < i → k < length xs → test (get_or xs k d) ≡ false)
    → filter test xs ≡ filter test (drop i xs)
skip_first test [] zero h = refl
skip_first test [] (suc i) h = refl
skip_first test (x ∷ xs) zero h = refl
skip_first test (x ∷ xs) (suc i) h =
    cond-false (test x) (x ∷ filter test xs) (filter test xs) (h 0 x (omega arith) (omega arith))
    ∙ skip_first test xs i (λ k d lt inside. h (suc k) d (omega arith) (omega arith))

-- where each of the first items passes, all of them are kept
all_first : {A : Type 0} (test : A → Bool) (xs : List A) (i : ℕ)
    → ((k : ℕ) (d : A) → k < i → k < length xs → test (get_or xs k d) ≡ true)
    → filter test (take i xs) ≡ take i xs
all_first test [] zero h = refl
all_first test [] (suc i) h = refl
all_first test (x ∷ xs) zero h = refl
all_first test (x ∷ xs) (suc i) h =
    cond-true (test x) (x ∷ filter test (take i xs)) (filter test (take i xs)) (h 0 x (omega arith) (omega arith))
    ∙ ap (λ (l : List _). x ∷ l) (all_first test xs i (λ k d lt inside. h (suc k) d (omega arith) (omega arith)))

module _ {A : Type 0} (prefix : A → List ℕ) where
  abbrev below : List ℕ → A → Bool
  below q a = is_strictly_below (prefix a) q

  -- ---- what is kept

  pub nothing_case : (q : List ℕ) (items : List A) → ((a : A) → IsIn a items → below q a ≡ false)
      → filter (below q) items ≡ []
  nothing_case q [] h = refl
  nothing_case q (a ∷ items) h = rw (h a (inl refl)) (nothing_case q items (λ b k. h b (inr k)))

  pub none_below : (items kept : List A) (q : List ℕ) → AreBelow prefix items q kept → kept ≡ []
      → filter (below q) items ≡ []
  none_below items kept q are e =
      nothing_case q items (λ a k. false_from_ne_true (below q a) (λ b. absurd (subst (IsIn a) e (are.all a k b))))

  pub none_left : (items kept : List A) (q : List ℕ) → AreBelow prefix items q kept → filter (below q) items ≡ []
      → kept ≡ []
  none_left items [] q are e = refl
  none_left items (a ∷ kept) q are e =
      absurd (let p = are.from a (inl refl) in subst (IsIn a) e (filter_in (below q) items a p.0 p.1))

  pub kept_in_order : (xs : List A) → AreInOrder prefix xs → (q : List ℕ) → AreInOrder prefix (filter (below q) xs)
  kept_in_order xs sorted q =
      IsSortedBy-filter (λ x y. is_lt (slice_cmp nat_cmp (prefix x) (prefix y))) (ranks_by nat_list_cmp_total prefix)
      (below q) xs sorted

  -- of all items, in the order of their prefixes
  pub below_all : (items xs : List A) → IsPermutation items xs → AreInOrder prefix xs → (q : List ℕ)
      → AreBelow prefix items q (filter (below q) xs)
  below_all items xs moved sorted q =
      record {
        from = λ a k. let p = in_filter (below q) xs a k in
            (moved_in xs items (IsPermutation-sym items xs moved) a p.0, p.1);
        all = λ a k b. filter_in (below q) xs a (moved_in items xs moved a k) b;
        in_order = kept_in_order xs sorted q;
      }

  -- of what is strictly below a wider prefix
  pub below_kept : (items kept : List A) (q h : List ℕ) → AreBelow prefix items q kept
      → ((a : A) → below h a ≡ true → below q a ≡ true) → AreBelow prefix items h (filter (below h) kept)
  below_kept items kept q h are wider =
      record {
        from = λ a k. let p = in_filter (below h) kept a k in ((are.from a p.0).0, p.1);
        all = λ a k b. filter_in (below h) kept a (are.all a k (wider a b)) b;
        in_order = kept_in_order kept are.in_order h;
      }

  -- ---- by places

  module _ (xs : List A) (sorted : AreInOrder prefix xs) (at : List ℕ) where
    far : (i j : ℕ) (d : A) → i ≤ j → j < length xs → IsUpTo (prefix (get_or xs i d)) (prefix (get_or xs j d))
    far i j d le inside =
        sorted_far (λ x y. is_lt (slice_cmp nat_cmp (prefix x) (prefix y))) (ranks_by nat_list_cmp_total prefix) xs
        sorted i j d le inside

    -- what covers the first item and the last one covers all
    pub covers_all : (w v : A) (n : ℕ) → n < length xs → length xs ≤ n + 1 → w ≡ get_or xs 0 w → v ≡ get_or xs n v
        → (p : List ℕ) → covers p (prefix w) ≡ true → covers p (prefix v) ≡ true
        → (a : A) → IsIn a xs → covers p (prefix a) ≡ true
    covers_all w v n inside end first last p low high a k =
        let c = contained xs a k in
        let within = c.1 in
        let at_first : get_or xs 0 a ≡ w = get_or_default xs 0 a w (omega (arith, inside)) ∙ sym first in
        let at_last : get_or xs n a ≡ v = get_or_default xs n a v inside ∙ sym last in
        let up : IsUpTo (prefix w) (prefix a) =
        subst (λ (y : A). IsUpTo (prefix y) (prefix a)) at_first
        (subst (λ (y : A). IsUpTo (prefix (get_or xs 0 a)) (prefix y)) c.2 (far 0 c.0 a (omega arith) within)) in
        let down : IsUpTo (prefix a) (prefix v) =
        subst (λ (y : A). IsUpTo (prefix a) (prefix y)) at_last
        (subst (λ (y : A). IsUpTo (prefix y) (prefix (get_or xs n a))) c.2
        (far c.0 n a (omega (arith, within, end)) inside)) in
        covers-between p (prefix a) (prefix v)
        (up_to_trans p (prefix w) (prefix a) (covers-up_to p (prefix w) low) up) down high

    abbrev pub is_up_to : A → Bool
    is_up_to a = is_le (slice_cmp nat_cmp (prefix a) at)

    abbrev pub is_before : A → Bool
    is_before a = is_lt (slice_cmp nat_cmp (prefix a) at)

    pub up_to_parted : IsPartitionedBy is_up_to xs
    up_to_parted = λ i j d le inside e.
        le-from (prefix (get_or xs i d)) at (up_to_trans (prefix (get_or xs i d)) (prefix (get_or xs j d)) at
        (far i j d le inside) (le-is (prefix (get_or xs j d)) at e))

    pub before_parted : IsPartitionedBy is_before xs
    before_parted = λ i j d le inside e.
        true_from_ne_false (is_before (get_or xs i d)) (λ f.
        both_ways (is_before (get_or xs j d)) (up_to_trans at (prefix (get_or xs i d)) (prefix (get_or xs j d)) f
        (far i j d le inside)) e)

    -- the item of a prefix, by the first that doesn't stand before it
    module _ (first : ℕ) (point : IsPartitionPoint (λ a. is_before a ≡ true) (λ a. is_before a ≡ false) xs first) where
      abbrev same : A → Bool
      same a = is_same_path (prefix a) at

      before_apart : (k : ℕ) (d : A) → k < first → k < length xs → same (get_or xs k d) ≡ false
      before_apart k d lt inside = false_from_ne_true (same (get_or xs k d)) (λ e.
          both_ways (is_before (get_or xs k d)) (not_below_itself (prefix (get_or xs k d)) at e)
          (point.0 k d (omega arith) lt))

      pub all_before : first ≡ length xs → find same xs ≡ None
      all_before end = found_none same xs (λ a k.
          let c = contained xs a k in
          let inside = c.1 in
          subst (λ (y : A). same y ≡ false) c.2 (before_apart c.0 a (omega (arith, inside, end)) c.1))

      module _ (w : A) (inside : first < length xs) (is : w ≡ get_or xs first w) where
        pub first_same : same w ≡ true → find same xs ≡ Some w
        first_same e = first_found same xs first w before_apart inside is e

        behind_apart : (a : A) (j : ℕ) → first ≤ j → j < length xs → get_or xs j a ≡ a → same w ≡ false
            → same a ≡ false
        behind_apart a j le within is_a other = false_from_ne_true (same a) (λ e.
            let here : get_or xs first a ≡ w = get_or_default xs first a w inside ∙ sym is in
            let low : IsUpTo at (prefix w) = subst (λ (y : A). IsUpTo at (prefix y)) (sym is)
            (point.1 first w (omega arith) inside) in
            let up : IsUpTo (prefix w) (prefix (get_or xs j a)) =
            subst (λ (y : A). IsUpTo (prefix y) (prefix (get_or xs j a))) here (far first j a le within) in
            let high : IsUpTo (prefix w) (prefix a) = subst (λ (y : A). IsUpTo (prefix w) (prefix y)) is_a up in
            let across = up_to_trans at (prefix w) (prefix a) low high in
            both_ways (same w) other (same_path-flips at (prefix w) (is_same_path-between at (prefix w) (prefix a) low
            high across (same_path-flips (prefix a) at e))))

        pub first_other : same w ≡ false → find same xs ≡ None
        first_other other = found_none same xs (λ a k.
            let c = contained xs a k in
            elim (cases_lt c.0 first) [
              | inl lt ↦ subst (λ (y : A). same y ≡ false) c.2 (before_apart c.0 a lt c.1)
              | inr le ↦ behind_apart a c.0 le c.1 c.2 other
            ])

    -- what is strictly below a prefix, between two places
    module _ (first : ℕ) (point : IsPartitionPoint (λ a. is_up_to a ≡ true) (λ a. is_up_to a ≡ false) xs first)
        (behind : List A) (rest : behind ≡ drop first xs) (len : length behind + first ≡ length xs) where
      up_to_above : (k : ℕ) (d : A) → k < first → k < length xs → below at (get_or xs k d) ≡ false
      up_to_above k d lt inside =
          let p = prefix (get_or xs k d) in
          false_from_ne_true (is_strictly_below p at) (λ b.
          let s = below_is p at b in
          both_ways (covers p at) s.1 (covers-back p at (le-is p at (point.0 k d (omega arith) lt)) s.0))

      got : (k : ℕ) (d : A) → get_or behind k d ≡ get_or xs (first + k) d
      got k d = ap (λ (ys : List A). get_or ys k d) rest ∙ get_or-drop first xs k d

      is_behind : (k : ℕ) (d : A) → k < length behind → is_up_to (get_or behind k d) ≡ false
      is_behind k d inside =
          subst (λ (y : A). is_up_to y ≡ false) (sym (got k d))
          (point.1 (first + k) d (omega arith) (omega (arith, inside, len)))

      further_behind : (i j : ℕ) (d : A) → i ≤ j → j < length behind
          → IsUpTo (prefix (get_or behind i d)) (prefix (get_or behind j d))
      further_behind i j d le inside =
          subst (λ (y : A). IsUpTo (prefix y) (prefix (get_or behind j d))) (sym (got i d))
          (subst (λ (y : A). IsUpTo (prefix (get_or xs (first + i) d)) (prefix y)) (sym (got j d))
          (far (first + i) (first + j) d (omega (arith, le)) (omega (arith, inside, len))))

      pub covered_parted : IsPartitionedBy (λ a. covers at (prefix a)) behind
      covered_parted = λ i j d le inside e.
          let p = prefix (get_or behind i d) in
          covers-between at p (prefix (get_or behind j d))
          (not_lt-from_not_le (slice_cmp nat_cmp p at) (is_behind i d (omega (arith, le, inside))))
          (further_behind i j d le inside) e

      pub below_together : (count : ℕ)
          → IsPartitionPoint (λ a. covers at (prefix a) ≡ true) (λ a. covers at (prefix a) ≡ false) behind count
          → take count behind ≡ filter (below at) xs
      below_together count end =
          sym (all_first (below at) behind count (λ k d lt inside.
          below_behind at (prefix (get_or behind k d)) (end.0 k d (omega arith) lt) (is_behind k d inside)))
          ∙ none_later (below at) behind count (λ k d le inside.
          ap (λ (b : Bool). b && not (covers (prefix (get_or behind k d)) at)) (end.1 k d le inside))
          ∙ ap (filter (below at)) rest
          ∙ sym (skip_first (below at) xs first up_to_above)
