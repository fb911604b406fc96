-- Two lists in the order of their prefixes, none twice, hold the same if and only if they do so place by place.
use Rattle.std.proofs.Common.{◌≡◌, ℕ, zero, suc, ◌<◌, Bool, true, false, List, [], ◌∷◌, length, get_or, IsPermutation, refl, sym, ap, subst, ◌∙◌, arith, inl, inr}
use Rattle.std.specs.Prelude.{IsSorted}
use Rattle.std.specs.List.{list_any, list_all, zip, AllWithin, HoldsAt}
use Rattle.std.specs.Bool.{MatchBool}
use Rattle.std.specs.Ordering.{nat_cmp, is_lt}
use Rattle.std.specs.Cmp.Lexicographic.{slice_cmp, nat_list_cmp_total, nat_list_eq_equiv}
use Rattle.std.proofs.lemmas.Bool.{both_ways, false_from_ne_true, and_parts, and_from}
use Rattle.std.proofs.lemmas.List.Sorted.{sorted_far, ranks_by, IsPermutation-sym}
use Rattle.ddt_path.specs.Covers.{is_same_path}
use Rattle.ddt_path.specs.laws.Cover.{same_path, path_itself}
use Rattle.ddt_path.specs.laws.Member.{IsIn, in_at, contained, moved_in, iff_same, all_of, holds_at, any_in, in_any}
use Rattle.ddt_path.specs.laws.PathOrder.{IsUpTo, same_from_ties, not_below_itself}
use Rattle.ddt_config.specs.Shaped.{have_own_prefixes}
use Rattle.ddt_config.specs.laws.Neighbour.{two_clash, no_two-IsPermutation}
use Rattle.ddt_plan.specs.Groups.{are_alike}

-- ---- the order

module _ {A : Type 0} (key : A → List ℕ) where
  -- x stands before y, and its prefix is another
  pub record Stands (x y : A) : Type 0 where
    up : IsUpTo (key x) (key y)
    apart : is_same_path (key x) (key y) ≡ false

  -- each item stands before all that come after it
  abbrev pub Rises : List A → Type 0
  Rises [] = Unit {0}
  Rises (x ∷ xs) = ((y : A) → IsIn y xs → Stands x y) × Rises xs

  from_places : (xs : List A) → ((i j : ℕ) (d : A) → i < j → j < length xs → Stands (get_or xs i d) (get_or xs j d))
      → Rises xs
  from_places [] h = tt
  from_places (x ∷ xs) h = (
    λ y k. let c = contained xs y k in subst (Stands x) c.2 (h 0 (suc c.0) y (omega arith) (omega (arith, c.1))),
    from_places xs (λ i j d below inside. h (suc i) (suc j) d (omega arith) (omega arith)),
  )

  own_at : (xs : List A) → have_own_prefixes key xs ≡ true → (i j : ℕ) (d : A) → i < j → j < length xs
      → is_same_path (key (get_or xs i d)) (key (get_or xs j d)) ≡ false
  own_at xs own i j d below inside =
      false_from_ne_true (is_same_path (key (get_or xs i d)) (key (get_or xs j d))) (λ e.
      both_ways (have_own_prefixes key xs)
      (two_clash (λ (a b : A). is_same_path (key a) (key b)) xs i j d below inside e) own)

  pub rises : (xs : List A) → IsSorted (λ x y. slice_cmp nat_cmp (key x) (key y)) xs → have_own_prefixes key xs ≡ true
      → Rises xs
  rises xs sorted own =
      from_places xs (λ i j d below inside. record {
        up = sorted_far (λ x y. is_lt (slice_cmp nat_cmp (key x) (key y))) (ranks_by nat_list_cmp_total key) xs sorted i
            j d (omega arith) inside;
        apart = own_at xs own i j d below inside;
      })

  pub own_moved : (xs ys : List A) → IsPermutation xs ys → have_own_prefixes key xs ≡ true
      → have_own_prefixes key ys ≡ true
  own_moved xs ys moved own =
      sym (no_two-IsPermutation (λ (a b : A). is_same_path (key a) (key b))
      (λ a b. nat_list_eq_equiv.symm (key a) (key b)) xs ys moved) ∙ own

-- ---- items and their likes

-- each item of either list has its like in the other
pub record HaveLikes {A : Type 0} (same : A → A → Bool) (xs ys : List A) : Type 0 where
  there : (x : A) → IsIn x xs → (y : A) × IsIn y ys × (same x y ≡ true)
  back : (y : A) → IsIn y ys → (x : A) × IsIn x xs × (same x y ≡ true)

module _ {A : Type 0} (same : A → A → Bool) where
  have_likes : (xs ys : List A) → are_alike same xs ys ≡ true → HaveLikes same xs ys
  have_likes xs ys e =
      let p = and_parts (list_all (λ x. list_any (λ y. same x y) ys) xs)
      (list_all (λ y. list_any (λ x. same x y) xs) ys) e in record {
        there = λ x k. any_in (λ y. same x y) ys (holds_at (λ z. list_any (λ y. same z y) ys) xs x p.0 k);
        back = λ y k. any_in (λ x. same x y) xs (holds_at (λ z. list_any (λ x. same x z) xs) ys y p.1 k);
      }

  alike_from : (xs ys : List A) → HaveLikes same xs ys → are_alike same xs ys ≡ true
  alike_from xs ys h =
      and_from (list_all (λ x. list_any (λ y. same x y) ys) xs) (list_all (λ y. list_any (λ x. same x y) xs) ys)
      (all_of (λ z. list_any (λ y. same z y) ys) xs (λ x k. let f = h.there x k in
      in_any (λ y. same x y) ys f.0 f.1 f.2))
      (all_of (λ z. list_any (λ x. same x z) xs) ys (λ y k. let f = h.back y k in
      in_any (λ x. same x y) xs f.0 f.1 f.2))

  moved_likes : (xs ys us vs : List A) → IsPermutation xs us → IsPermutation ys vs → HaveLikes same xs ys
      → HaveLikes same us vs
  moved_likes xs ys us vs m n h = record {
    there = λ x k. let f = h.there x (moved_in us xs (IsPermutation-sym xs us m) x k) in
        (f.0, moved_in ys vs n f.0 f.1, f.2);
    back = λ y k. let f = h.back y (moved_in vs ys (IsPermutation-sym ys vs n) y k) in
        (f.0, moved_in xs us m f.0 f.1, f.2);
  }

  -- ---- place by place

  abbrev pub same_at : A × A → Bool
  same_at p = same p.0 p.1

  likes_in_turn : (xs ys : List A) → length xs ≡ length ys → list_all same_at (zip xs ys) ≡ true → HaveLikes same xs ys
  likes_in_turn [] [] long e = record { there = λ x k. absurd k; back = λ y k. absurd k }
  likes_in_turn [] (y ∷ ys) long e = absurd (omega arith)
  likes_in_turn (x ∷ xs) [] long e = absurd (omega arith)
  likes_in_turn (x ∷ xs) (y ∷ ys) long e =
      let p = and_parts (same x y) (list_all same_at (zip xs ys)) e in
      let rest = likes_in_turn xs ys (omega arith) p.1 in record {
        there = λ z k. elim k [
          | inl one ↦ (y, inl refl, ap (λ (w : A). same w y) one ∙ p.0)
          | inr later ↦ let f = rest.there z later in (f.0, inr f.1, f.2)
        ];
        back = λ z k. elim k [
          | inl one ↦ (x, inl refl, ap (same x) one ∙ p.0)
          | inr later ↦ let f = rest.back z later in (f.0, inr f.1, f.2)
        ];
      }

  module _ (key : A → List ℕ) (one_key : (x y : A) → same x y ≡ true → is_same_path (key x) (key y) ≡ true) where
    no_tie : (x y : A) → Stands key x y → key x ≡ key y → ⊥
    no_tie x y s e = both_ways (is_same_path (key x) (key y)) s.apart (path_itself (key x) (key y) e)

    -- an item stands up to each of the list that it begins
    first_up : (x : A) (xs : List A) → Rises key (x ∷ xs) → (z : A) → IsIn z (x ∷ xs) → IsUpTo (key x) (key z)
    first_up x xs up z (inl one) = subst (λ (w : A). IsUpTo (key x) (key w)) (sym one)
        (not_below_itself (key x) (key x) (path_itself (key x) (key x) refl))
    first_up x xs up z (inr later) = (up.0 z later).up

    heads_tie : (x y : A) (xs ys : List A) → Rises key (x ∷ xs) → Rises key (y ∷ ys) → HaveLikes same (x ∷ xs) (y ∷ ys)
        → key x ≡ key y
    heads_tie x y xs ys up vp h =
        let f = h.there x (inl refl) in
        let g = h.back y (inl refl) in
        let e = same_path (key x) (key f.0) (one_key x f.0 f.2) in
        let d = same_path (key g.0) (key y) (one_key g.0 y g.2) in
        same_path (key x) (key y) (same_from_ties (key x) (key y)
        (subst (IsUpTo (key x)) d (first_up x xs up g.0 g.1))
        (subst (IsUpTo (key y)) (sym e) (first_up y ys vp f.0 f.1)))

    heads_same : (x y : A) (ys : List A) → Rises key (y ∷ ys) → key x ≡ key y → (z : A) → IsIn z (y ∷ ys)
        → same x z ≡ true → same x y ≡ true
    heads_same x y ys vp tie z (inl one) e = ap (same x) (sym one) ∙ e
    heads_same x y ys vp tie z (inr later) e = absurd
        (no_tie y z (vp.0 z later) (sym tie ∙ same_path (key x) (key z) (one_key x z e)))

    tails : (x y : A) (xs ys : List A) → Rises key (x ∷ xs) → Rises key (y ∷ ys) → key x ≡ key y
        → HaveLikes same (x ∷ xs) (y ∷ ys) → HaveLikes same xs ys
    tails x y xs ys up vp tie h = record {
      there = λ z k. let f = h.there z (inr k) in elim f.1 [
        | inl one ↦ absurd (no_tie x z (up.0 z k) (tie ∙ ap key (sym one)
            ∙ sym (same_path (key z) (key f.0) (one_key z f.0 f.2))))
        | inr later ↦ (f.0, later, f.2)
      ];
      back = λ z k. let f = h.back z (inr k) in elim f.1 [
        | inl one ↦ absurd (no_tie y z (vp.0 z k) (sym tie ∙ ap key (sym one)
            ∙ same_path (key f.0) (key z) (one_key f.0 z f.2)))
        | inr later ↦ (f.0, later, f.2)
      ];
    }

    turn_by_likes : (xs ys : List A) → Rises key xs → Rises key ys → HaveLikes same xs ys
        → (length xs ≡ length ys) × (list_all same_at (zip xs ys) ≡ true)
    turn_by_likes [] [] up vp h = (refl, refl)
    turn_by_likes [] (y ∷ ys) up vp h = absurd (h.back y (inl refl)).1
    turn_by_likes (x ∷ xs) [] up vp h = absurd (h.there x (inl refl)).1
    turn_by_likes (x ∷ xs) (y ∷ ys) up vp h =
        let tie = heads_tie x y xs ys up vp h in
        let f = h.there x (inl refl) in
        let rest = turn_by_likes xs ys up.1 vp.1 (tails x y xs ys up vp tie h) in (
          omega (arith, rest.0),
          and_from (same x y) (list_all same_at (zip xs ys))
              (heads_same x y ys vp tie f.0 f.1 f.2) rest.1,
        )

    -- ---- from lists in any order

    module _ (xs ys us vs : List A) (m : IsPermutation xs us) (n : IsPermutation ys vs)
        (own : have_own_prefixes key xs ≡ true) (others : have_own_prefixes key ys ≡ true)
        (sorted : IsSorted (λ x y. slice_cmp nat_cmp (key x) (key y)) us)
        (in_order : IsSorted (λ x y. slice_cmp nat_cmp (key x) (key y)) vs) where
      turned : are_alike same xs ys ≡ true → (length us ≡ length vs) × (list_all same_at (zip us vs) ≡ true)
      turned e =
          turn_by_likes us vs (rises key us sorted (own_moved key xs us m own))
          (rises key vs in_order (own_moved key ys vs n others))
          (moved_likes xs ys us vs m n (have_likes xs ys e))

      pub alike_in_turn : length us ≡ length vs → list_all same_at (zip us vs) ≡ are_alike same xs ys
      alike_in_turn long =
          iff_same (list_all same_at (zip us vs)) (are_alike same xs ys)
          (λ e. alike_from xs ys
          (moved_likes us vs xs ys (IsPermutation-sym xs us m) (IsPermutation-sym ys vs n)
          (likes_in_turn us vs long e)))
          (λ e. (turned e).1)

      pub others_long : (length us ≡ length vs → ⊥) → false ≡ are_alike same xs ys
      others_long e = sym (false_from_ne_true (are_alike same xs ys) (λ h. e (turned h).0))

-- ---- what `all` told of the pairs of two lists

module _ {A : Type 0} (whole : A → Bool) where
  abbrev pub AreWhole : A × A → Type 0
  AreWhole p = (whole p.0 ≡ true) × (whole p.1 ≡ true)

  pub whole_pairs : (xs ys : List A) → list_all whole xs ≡ true → list_all whole ys ≡ true → (p : A × A)
      → IsIn p (zip xs ys) → AreWhole p
  whole_pairs [] ys e f p k = absurd k
  whole_pairs (x ∷ xs) [] e f p k = absurd k
  whole_pairs (x ∷ xs) (y ∷ ys) e f p (inl one) =
      let a = and_parts (whole x) (list_all whole xs) e in
      let b = and_parts (whole y) (list_all whole ys) f in
      (ap (λ (q : A × A). whole q.0) one ∙ a.0, ap (λ (q : A × A). whole q.1) one ∙ b.0)
  whole_pairs (x ∷ xs) (y ∷ ys) e f p (inr later) =
      whole_pairs xs ys (and_parts (whole x) (list_all whole xs) e).1 (and_parts (whole y) (list_all whole ys) f).1 p
      later

  pub whole_moved : (xs ys : List A) → IsPermutation xs ys → list_all whole xs ≡ true → list_all whole ys ≡ true
  whole_moved xs ys m e = all_of whole ys
      (λ y k. holds_at whole xs y e (moved_in ys xs (IsPermutation-sym xs ys m) y k))

at_place : {B : Type 0} (ps : List B) (k : ℕ) → k < length ps → (p : B) × (p ≡ get_or ps k p)
at_place [] k lt = absurd (omega arith)
at_place (p ∷ ps) zero lt = (p, refl)
at_place (p ∷ ps) (suc k) lt = at_place ps k (omega arith)

pub told_by_all : {B : Type 0} (Whole : B → Type 0) (test : B → Bool) (ps : List B) (r : Bool)
    → ((p : B) → IsIn p ps → Whole p)
    → MatchBool r (AllWithin (λ p. Whole p → test p ≡ true) ps 0 (length ps))
    ((k : ℕ) × (k < length ps) × HoldsAt (λ p. Whole p → test p ≡ false) ps k)
    → r ≡ list_all test ps
told_by_all Whole test ps true whole h =
    sym (all_of test ps (λ p k. let c = contained ps p k in
    (subst (λ q. Whole q → test q ≡ true) c.2 (h c.0 p (omega arith) c.1)) (whole p k)))
told_by_all Whole test ps false whole h =
    let at = at_place ps h.0 h.1 in
    let k = in_at ps h.0 at.0 h.1 at.1 in
    sym (false_from_ne_true (list_all test ps) (λ e.
    both_ways (test at.0) (subst (λ q. Whole q → test q ≡ false) (sym at.1) (h.2 at.0) (whole at.0 k))
    (holds_at test ps at.0 e k)))
