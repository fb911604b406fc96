-- Locators whose fingerprints differ stand once each, and groups of which no locator stands twice share none.
use Rattle.std.proofs.Common.{◌≡◌, ℕ, true, false, List, [], ◌∷◌, ◌++◌, map, get_or, not, IsPermutation, inl, inr, refl, sym, ap, subst, ◌∙◌, arith}
use Rattle.std.specs.Prelude.{◌==◌}
use Rattle.std.specs.List.{AllByRecursion, IsDistinct}
use Rattle.std.specs.List.Sorted.{IsSorted, IsStrictlyIncreasing}
use Rattle.std.specs.Ordering.{nat_cmp}
use Rattle.std.proofs.lemmas.Bool.{both_ways, not-true, not_from_false, false_from_ne_true, and_parts, and_from, eq-eqb, eqb-true, ne_eqb}
use Rattle.std.proofs.lemmas.List.Sorted.{IsPermutation-sym, IsNonDecreasingBy-from_sort}
use Rattle.std.proofs.lemmas.Map.Keys.{IsDistinct-head, IsDistinct-tail, IsDistinct-from_apart, IsDistinct-IsPermutation, IsStrictlyIncreasing-from_distinct, sorted_from_strictly_increasing, below_from_sorted}
use Rattle.ddt_path.specs.declared.locator.Locator.{Locator}
use Rattle.ddt_path.specs.Locators.{is_same_locator, lists, are_distinct}
use Rattle.ddt_path.specs.laws.Locator.{same_locator, is_same_locator_self}
use Rattle.ddt_path.specs.laws.Member.{IsIn, iff_same, none_of, in_any, map_in}
use Rattle.ddt_register.specs.declared.group.Group.{Group}
use Rattle.ddt_check.specs.Fingerprints.{fingerprint, all_locators}

-- ---- numbers

flips : (x y : ℕ) → (x == y) ≡ (y == x)
flips x y = iff_same (x == y) (y == x) (λ e. eq-eqb y x (sym (eqb-true x y e))) (λ e. eq-eqb x y (sym (eqb-true y x e)))

-- each number above the one before it: none stands twice
increasing_differ : (xs : List ℕ) → IsStrictlyIncreasing xs → IsDistinct ◌==◌ xs
increasing_differ xs up = IsDistinct-from_apart ◌==◌ xs (λ i j d lt inside.
    ne_eqb (get_or xs i d) (get_or xs j d) (λ same.
    let below = below_from_sorted xs i j d (sorted_from_strictly_increasing xs up) lt inside in omega arith))

-- the same after a sort, and the other way round
pub increasing_from_differ : (xs ys : List ℕ) → IsPermutation xs ys → IsSorted nat_cmp ys → IsDistinct ◌==◌ xs
    → IsStrictlyIncreasing ys
increasing_from_differ xs ys moved sorted h = IsStrictlyIncreasing-from_distinct ys
    (IsNonDecreasingBy-from_sort (λ (x : ℕ). x) ys sorted) (IsDistinct-IsPermutation ◌==◌ flips xs ys moved h)

pub differ_from_increasing : (xs ys : List ℕ) → IsPermutation xs ys → IsStrictlyIncreasing ys → IsDistinct ◌==◌ xs
differ_from_increasing xs ys moved up =
    IsDistinct-IsPermutation ◌==◌ flips ys xs (IsPermutation-sym xs ys moved) (increasing_differ ys up)

-- ---- locators

each_in : {A : Type 0} (P : A → Type 0) (xs : List A) (x : A) → AllByRecursion P xs → IsIn x xs → P x
each_in P [] x h k = absurd k
each_in P (y ∷ ys) x h (inl same) = subst P (sym same) h.0
each_in P (y ∷ ys) x h (inr later) = each_in P ys x h.1 later

-- locators whose fingerprints differ are distinct
pub distinct_by_fingerprints : (ls : List Locator) → IsDistinct ◌==◌ (map fingerprint ls) → are_distinct ls ≡ true
distinct_by_fingerprints [] h = refl
distinct_by_fingerprints (l ∷ rest) h =
    let first = IsDistinct-head ◌==◌ (fingerprint l) (map fingerprint rest) h in
    and_from (not (lists rest l)) (are_distinct rest)
    (not_from_false (lists rest l) (none_of (λ (m : Locator). is_same_locator m l) rest (λ m k.
    false_from_ne_true (is_same_locator m l) (λ e.
    both_ways (fingerprint l == fingerprint m)
    (each_in (λ (y : ℕ). (fingerprint l == y) ≡ false) (map fingerprint rest) (fingerprint m) first
    (map_in fingerprint rest m k))
    (eq-eqb (fingerprint l) (fingerprint m) (ap fingerprint (sym (same_locator m l e))))))))
    (distinct_by_fingerprints rest (IsDistinct-tail ◌==◌ (fingerprint l) (map fingerprint rest) h))

-- ---- groups

in_front : (xs ys : List Locator) (l : Locator) → IsIn l xs → IsIn l (xs ++ ys)
in_front [] ys l k = absurd k
in_front (x ∷ xs) ys l (inl same) = inl same
in_front (x ∷ xs) ys l (inr later) = inr (in_front xs ys l later)

in_behind : (xs ys : List Locator) (l : Locator) → IsIn l ys → IsIn l (xs ++ ys)
in_behind [] ys l k = k
in_behind (x ∷ xs) ys l k = inr (in_behind xs ys l k)

in_all : (gs : List Group) (g : Group) (l : Locator) → IsIn g gs → IsIn l g.locators → IsIn l (all_locators gs)
in_all [] g l k j = absurd k
in_all (x ∷ gs) g l (inl same) j = in_front x.locators (all_locators gs) l
    (subst (λ (z : Group). IsIn l z.locators) same j)
in_all (x ∷ gs) g l (inr later) j = in_behind x.locators (all_locators gs) l (in_all gs g l later j)

rest_distinct : (x : Locator) (xs : List Locator) → are_distinct (x ∷ xs) ≡ true → are_distinct xs ≡ true
rest_distinct x xs e = (and_parts (not (lists xs x)) (are_distinct xs) e).1

behind_distinct : (xs ys : List Locator) → are_distinct (xs ++ ys) ≡ true → are_distinct ys ≡ true
behind_distinct [] ys e = e
behind_distinct (x ∷ xs) ys e = behind_distinct xs ys (rest_distinct x (xs ++ ys) e)

-- what stands in one part of distinct locators stands in no other
in_one_part : (xs ys : List Locator) (l : Locator) → are_distinct (xs ++ ys) ≡ true → IsIn l xs → IsIn l ys → ⊥
in_one_part [] ys l e k j = k
in_one_part (x ∷ xs) ys l e (inl same) j =
    let once = (and_parts (not (lists (xs ++ ys) x)) (are_distinct (xs ++ ys)) e).0 in
    both_ways (lists (xs ++ ys) x) (not-true (lists (xs ++ ys) x) once)
    (in_any (λ (m : Locator). is_same_locator m x) (xs ++ ys) l (in_behind xs ys l j)
    (rw same (is_same_locator_self x)))
in_one_part (x ∷ xs) ys l e (inr later) j = in_one_part xs ys l (rest_distinct x (xs ++ ys) e) later j

-- where no locator stands twice in all groups, no two groups share one
pub share_none : (gs : List Group) (h g : Group) (l : Locator) → are_distinct (all_locators gs) ≡ true
    → IsIn h gs → IsIn g gs → (h.row ≡ g.row → ⊥) → IsIn l h.locators → IsIn l g.locators → ⊥
share_none [] h g l e a b apart in_h in_g = a
share_none (x ∷ gs) h g l e (inl a) (inl b) apart in_h in_g = apart (ap (λ (z : Group). z.row) (a ∙ sym b))
share_none (x ∷ gs) h g l e (inl a) (inr b) apart in_h in_g = in_one_part x.locators (all_locators gs) l e
    (subst (λ (z : Group). IsIn l z.locators) a in_h) (in_all gs g l b in_g)
share_none (x ∷ gs) h g l e (inr a) (inl b) apart in_h in_g = in_one_part x.locators (all_locators gs) l e
    (subst (λ (z : Group). IsIn l z.locators) b in_g) (in_all gs h l a in_h)
share_none (x ∷ gs) h g l e (inr a) (inr b) apart in_h in_g =
    share_none gs h g l (behind_distinct x.locators (all_locators gs) e) a b apart in_h in_g
