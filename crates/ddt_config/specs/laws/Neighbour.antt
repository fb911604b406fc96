-- In a sorted list of prefixes no two clash if and only if no neighbours do: what stands between two that overlap, or
-- are one, overlaps the first of them, or is one with it. And whether two clash doesn't rest on the order of a list.
use Rattle.std.proofs.Common.{◌≡◌, ℕ, zero, suc, ◌+◌, ◌<◌, ◌≤◌, Bool, true, false, not, List, [], ◌∷◌, map, length, get_or, IsPermutation, Ordering, inl, inr, refl, sym, ◌∙◌, arith}
use Rattle.std.specs.Prelude.{◌&&◌, IsSorted}
use Rattle.std.specs.List.{list_any}
use Rattle.std.specs.Ordering.{nat_cmp, is_lt}
use Rattle.std.specs.Cmp.{IsTotalOrder}
use Rattle.std.specs.Cmp.Lexicographic.{slice_cmp, nat_list_cmp_total, nat_list_eq_equiv}
use Rattle.std.proofs.lemmas.Bool.{both_ways, not-true, not_from_false, false_from_ne_true, and_parts, and_from, or_cases, or_left}
use Rattle.std.proofs.Math.Bool.{or_comm}
use Rattle.std.proofs.lemmas.List.Folds.{list_any_none, list_any_at}
use Rattle.std.proofs.lemmas.List.Sorted.{sorted_far, ranks_by, IsPermutation-sym}
use Rattle.std.proofs.lemmas.Map.Keys.{apart_from_distinct, IsDistinct-from_apart, IsDistinct-IsPermutation}
use Rattle.ddt_path.specs.Covers.{covers, overlaps}
use Rattle.ddt_path.specs.laws.Member.{iff_same, list_any-map}
use Rattle.ddt_path.specs.laws.PathOrder.{IsUpTo, covers-between, covers-back, is_same_path-between}
use Rattle.ddt_config.specs.declared.neighbours.Clash.{Clash}
use Rattle.ddt_config.specs.declared.neighbours.Clash.TheVariants.{Same, Overlap}
use Rattle.ddt_config.specs.Shaped.{no_two}
use Rattle.ddt_config.specs.Reading.{clashes}

-- ---- no two clash: by places, in another order, and in a sorted list

module _ {A : Type 0} (clash : A → A → Bool) where
  abbrev pub AreApartAt : List A → ℕ → ℕ → Type 0
  AreApartAt xs i j = (d : A) → clash (get_or xs i d) (get_or xs j d) ≡ false

  no_two-from_places : (xs : List A) → ((i j : ℕ) → i < j → j < length xs → AreApartAt xs i j) → no_two clash xs ≡ true
  no_two-from_places [] h = refl
  no_two-from_places (a ∷ rest) h =
      and_from (not (list_any (clash a) rest)) (no_two clash rest)
      (not_from_false (list_any (clash a) rest) (list_any_none (clash a) rest (λ k d lt. h 0 (suc k) (omega arith) (omega arith) d)))
      (no_two-from_places rest (λ i j below inside d. h (suc i) (suc j) (omega arith) (omega arith) d))

  places-from_no_two : (xs : List A) → no_two clash xs ≡ true → (i j : ℕ) → i < j → j < length xs → AreApartAt xs i j
  places-from_no_two [] h i j below inside d = absurd (omega arith)
  places-from_no_two (a ∷ rest) h i zero below inside d = absurd (omega arith)
  places-from_no_two (a ∷ rest) h zero (suc j) below inside d =
      let none = not-true (list_any (clash a) rest) (and_parts (not (list_any (clash a) rest)) (no_two clash rest) h).0 in
      false_from_ne_true (clash a (get_or rest j d)) (λ e. both_ways (list_any (clash a) rest) none (list_any_at (clash a) rest j d (omega arith) e))
  places-from_no_two (a ∷ rest) h (suc i) (suc j) below inside d =
      places-from_no_two rest (and_parts (not (list_any (clash a) rest)) (no_two clash rest) h).1 i j (omega arith) (omega arith) d

  -- two of them clash
  pub two_clash : (xs : List A) (i j : ℕ) (d : A) → i < j → j < length xs → clash (get_or xs i d) (get_or xs j d) ≡ true → no_two clash xs ≡ false
  two_clash xs i j d below inside e =
      false_from_ne_true (no_two clash xs) (λ h. both_ways (clash (get_or xs i d) (get_or xs j d)) (places-from_no_two xs h i j below inside d) e)

  module _ (flips : (a b : A) → clash a b ≡ clash b a) where
    no_two-moved : (xs ys : List A) → IsPermutation xs ys → no_two clash xs ≡ true → no_two clash ys ≡ true
    no_two-moved xs ys moved h =
        let kept = IsDistinct-IsPermutation clash flips xs ys moved (IsDistinct-from_apart clash xs (λ i j d below inside. places-from_no_two xs h i j below inside d)) in
        no_two-from_places ys (λ i j below inside d. apart_from_distinct clash ys i j d kept below inside)

    pub no_two-IsPermutation : (xs ys : List A) → IsPermutation xs ys → no_two clash xs ≡ no_two clash ys
    no_two-IsPermutation xs ys moved =
        iff_same (no_two clash xs) (no_two clash ys) (no_two-moved xs ys moved) (no_two-moved ys xs (IsPermutation-sym xs ys moved))

  module _ (cmp : A → A → Ordering) (o : IsTotalOrder cmp)
      (near : (a b c : A) → is_lt (cmp b a) ≡ false → is_lt (cmp c b) ≡ false → is_lt (cmp c a) ≡ false → clash a c ≡ true → clash a b ≡ true) where
    pub no_two-from_neighbours : (xs : List A) → IsSorted cmp xs → ((k : ℕ) → k + 1 < length xs → AreApartAt xs k (k + 1)) → no_two clash xs ≡ true
    no_two-from_neighbours xs sorted neighbours =
        no_two-from_places xs
        (λ i j below inside d.
        let far : (m n : ℕ) → m ≤ n → n < length xs → is_lt (cmp (get_or xs n d) (get_or xs m d)) ≡ false =
        λ m n le lt. sorted_far (λ x y. is_lt (cmp x y)) (ranks_by o (λ (x : A). x)) xs sorted m n d le lt in
        let next : i + 1 < length xs = omega arith in
        false_from_ne_true (clash (get_or xs i d) (get_or xs j d)) (λ e.
        both_ways (clash (get_or xs i d) (get_or xs (i + 1) d)) (neighbours i next d)
        (near (get_or xs i d) (get_or xs (i + 1) d) (get_or xs j d) (far i (i + 1) (omega arith) next) (far (i + 1) j (omega arith) inside) (far i j (omega arith) inside) e)))

pub no_two-map : {A B : Type 0} (clash : B → B → Bool) (f : A → B) (xs : List A) → no_two clash (map f xs) ≡ no_two (λ a b. clash (f a) (f b)) xs
no_two-map clash f [] = refl
no_two-map clash f (x ∷ xs) = λ i. not (list_any-map (clash (f x)) f xs i) && no_two-map clash f xs i

-- ---- how prefixes clash, in order

overlaps-between : (a b c : List ℕ) → IsUpTo a b → IsUpTo b c → IsUpTo a c → overlaps a c ≡ true → overlaps a b ≡ true
overlaps-between a b c up down far e =
    or_left (covers a b) (covers b a)
    (covers-between a b c up down (elim (or_cases (covers a c) (covers c a) e) [ inl inside ↦ inside | inr back ↦ covers-back a c far back ]))

between : (clash : Clash) (a b c : List ℕ) → IsUpTo a b → IsUpTo b c → IsUpTo a c → clashes clash a c ≡ true → clashes clash a b ≡ true
between Same = is_same_path-between
between Overlap = overlaps-between

flips : (clash : Clash) (a b : List ℕ) → clashes clash a b ≡ clashes clash b a
flips Same a b = nat_list_eq_equiv.symm a b
flips Overlap a b = or_comm (covers a b) (covers b a)

-- ---- sorted prefixes, and the items whose they are

pub none_clash : (clash : Clash) (ps : List (List ℕ)) → IsSorted (slice_cmp nat_cmp) ps → ((k : ℕ) → k + 1 < length ps → AreApartAt (clashes clash) ps k (k + 1)) → no_two (clashes clash) ps ≡ true
none_clash clash = no_two-from_neighbours (clashes clash) (slice_cmp nat_cmp) nat_list_cmp_total (between clash)

pub no_two-sorted : {A : Type 0} (clash : Clash) (prefix : A → List ℕ) (xs : List A) (ps : List (List ℕ)) → IsPermutation (map prefix xs) ps → no_two (clashes clash) ps ≡ no_two (λ a b. clashes clash (prefix a) (prefix b)) xs
no_two-sorted clash prefix xs ps moved = sym (no_two-IsPermutation (clashes clash) (flips clash) (map prefix xs) ps moved) ∙ no_two-map (clashes clash) prefix xs
