-- Rows in any order: a list whose rows rise is the only order of its items that is sorted by row.
use Rattle.std.proofs.Common.{◌≡◌, ℕ, zero, suc, ◌<◌, ◌≤◌, Bool, true, false, List, [], ◌∷◌, map, length, get_or, IsPermutation, find, Some, refl, sym, ap, subst, ◌∙◌, arith, inl, inr}
use Rattle.std.specs.Prelude.{◌==◌, ⊤}
use Rattle.std.specs.List.{filter, IsDistinct}
use Rattle.std.specs.Ordering.{nat_cmp}
use Rattle.std.specs.List.Sorted.{IsSortedByKey}
use Rattle.std.proofs.lemmas.Bool.{ne_eqb, eqb-false, cond-true, cond-false}
use Rattle.std.proofs.lemmas.List.Sorted.{IsNonDecreasingBy-from_sort, IsPermutation-sym}
use Rattle.std.proofs.lemmas.List.Elements.{Contains-get_or}
use Rattle.std.proofs.lemmas.Cmp.{nat_eq_equiv}
use Rattle.std.proofs.lemmas.Map.Keys.{apart_from_distinct, IsDistinct-from_apart, IsDistinct-IsPermutation}
use Rattle.ddt_register.specs.Rows.{rise}
use Rattle.ddt_path.specs.laws.Member.{IsIn, in_contained, contained, moved_in}
use Rattle.ddt_path.specs.laws.Filter.{in_filter, filter_in, distinct_kept}
use Rattle.ddt_register.specs.declared.group.Group.{Group}
use Rattle.ddt_register.specs.declared.register.Register.{Register}
use Rattle.ddt_register.specs.laws.Rising.{above, rise_parts, rise-filter, groups_rise}

abbrev pub Rising : {A : Type 0} → (A → ℕ) → List A → Type 0
Rising row [] = ⊤
Rising row (x ∷ xs) = ((y : _) → IsIn y xs → row x < row y) × Rising row xs

pub rising_from_rise : {A : Type 0} (row : A → ℕ) (xs : List A) (last : ℕ) → rise last (map row xs) ≡ true
    → Rising row xs
rising_from_rise row [] last e = tt
rising_from_rise row (x ∷ xs) last e =
    let p = rise_parts last (row x) (map row xs) e in
    (λ y k. above row xs (row x) y p.1 k, rising_from_rise row xs (row x) p.1)

-- a member that passes is found, if none of a lower row passes
pub found_first : {A : Type 0} (row : A → ℕ) (test : A → Bool) (xs : List A) (x : A) → Rising row xs → IsIn x xs → test x ≡ true
    → ((y : A) → IsIn y xs → row y < row x → test y ≡ false) → find test xs ≡ Some x
found_first row test [] x up h t low = absurd h
found_first row test (y ∷ xs) x up (inl same) t low = rw (← same, t) refl
found_first row test (y ∷ xs) x up (inr later) t low =
    rw (low y (inl refl) (up.0 x later)) (found_first row test xs x up.1 later t (λ z k lt. low z (inr k) lt))

-- what is found stands in no higher row than a member that passes
pub first_found : {A : Type 0} (row : A → ℕ) (test : A → Bool) (xs : List A) (x : A) → Rising row xs → IsIn x xs
    → test x ≡ true → (g : A) × (find test xs ≡ Some g) × (row g ≤ row x)
first_found row test [] x up k e = absurd k
first_found row test (y ∷ xs) x up (inl same) e = (
  y,
  cond-true (test y) (Some y) (find test xs) (ap test (sym same) ∙ e),
  let q : row y ≡ row x = ap row (sym same) in omega arith,
)
first_found {A} row test (y ∷ xs) x up (inr later) e = go (test y) refl (first_found row test xs x up.1 later e)
  where
    go : (b : Bool) → test y ≡ b → (g : A) × (find test xs ≡ Some g) × (row g ≤ row x)
        → (g : A) × (find test (y ∷ xs) ≡ Some g) × (row g ≤ row x)
    go true f p = (y, cond-true (test y) (Some y) (find test xs) f, let lt = up.0 x later in omega arith)
    go false f p = (p.0, cond-false (test y) (Some y) (find test xs) f ∙ p.1, p.2)

rising_from_places : {A : Type 0} (row : A → ℕ) (xs : List A)
    → ((i j : ℕ) (d : A) → i < j → j < length xs → row (get_or xs i d) < row (get_or xs j d)) → Rising row xs
rising_from_places row [] h = tt
rising_from_places row (x ∷ xs) h = (
  λ y k. let c = contained xs y k in subst (λ (a : _). row x < row a) c.2
      (h 0 (suc c.0) y (omega arith) (omega (arith, c.1))),
  rising_from_places row xs (λ i j d below inside. h (suc i) (suc j) d (omega arith) (omega arith)),
)

rising_places : {A : Type 0} (row : A → ℕ) (xs : List A) → Rising row xs → (i j : ℕ) (d : A) → i < j → j < length xs
    → row (get_or xs i d) < row (get_or xs j d)
rising_places row [] up i j d below inside = absurd (omega arith)
rising_places row (x ∷ xs) up i zero d below inside = absurd (omega arith)
rising_places row (x ∷ xs) up zero (suc j) d below inside = up.0 (get_or xs j d)
    (in_contained xs (get_or xs j d) (Contains-get_or xs j d (omega arith)))
rising_places row (x ∷ xs) up (suc i) (suc j) d below inside = rising_places row xs up.1 i j d (omega arith)
    (omega arith)

-- rows are distinct in any order of the items
pub rows_apart : {A : Type 0} (row : A → ℕ) (xs ys : List A) → Rising row xs → IsPermutation xs ys → (i j : ℕ) (d : A)
    → i < j → j < length ys → (row (get_or ys i d) == row (get_or ys j d)) ≡ false
rows_apart row xs ys up moved i j d below inside =
    let e = (λ (a b : _). row a == row b) in
    apart_from_distinct e ys i j d
    (IsDistinct-IsPermutation e (λ a b. nat_eq_equiv.symm (row a) (row b)) xs ys moved
    (IsDistinct-from_apart e xs (λ i j d below inside. ne_eqb _ _
    (λ same. let lt = rising_places row xs up i j d below inside in omega arith))))
    below inside

heads : {A : Type 0} (row : A → ℕ) (x y : A) (xs ys : List A) → Rising row (x ∷ xs) → Rising row (y ∷ ys)
    → IsIn x (y ∷ ys) → IsIn y (x ∷ xs) → y ≡ x
heads row x y xs ys up vp (inl same) there = sym same
heads row x y xs ys up vp (inr later) (inl same) = same
heads row x y xs ys up vp (inr later) (inr also) = let a = up.0 y also in let b = vp.0 x later in absurd (omega arith)

tails : {A : Type 0} (row : A → ℕ) (x y : A) (xs ys : List A) → Rising row (x ∷ xs) → y ≡ x
    → ((a : A) → IsIn a (x ∷ xs) → IsIn a (y ∷ ys)) → (a : A) → IsIn a xs → IsIn a ys
tails row x y xs ys up same sub a k = go (sub a (inr k))
  where
    go : IsIn a (y ∷ ys) → IsIn a ys
    go (inl head) = let lt = up.0 a k in let e : row a ≡ row x = ap row (head ∙ same) in absurd (omega arith)
    go (inr later) = later

pub one_order : {A : Type 0} (row : A → ℕ) (xs ys : List A) → Rising row xs → Rising row ys
    → ((a : A) → IsIn a xs → IsIn a ys) → ((a : A) → IsIn a ys → IsIn a xs) → ys ≡ xs
one_order row [] [] up vp sub sup = refl
one_order row [] (y ∷ ys) up vp sub sup = absurd (sup y (inl refl))
one_order row (x ∷ xs) [] up vp sub sup = absurd (sub x (inl refl))
one_order row (x ∷ xs) (y ∷ ys) up vp sub sup =
    let same = heads row x y xs ys up vp (sub x (inl refl)) (sup y (inl refl)) in
    let rest = one_order row xs ys up.1 vp.1 (tails row x y xs ys up same sub)
    (tails row y x ys xs vp (sym same) sup) in
    ap (λ (h : _). h ∷ ys) same ∙ ap (λ (t : List _). x ∷ t) rest

-- what is sorted by rows that are apart, in any order, rises
sorted_rises : {A : Type 0} (row : A → ℕ) (ys : List A) → IsSortedByKey row nat_cmp ys
    → ((i j : ℕ) (d : A) → i < j → j < length ys → (row (get_or ys i d) == row (get_or ys j d)) ≡ false) → Rising row ys
sorted_rises row ys sorted apart =
    let flat = IsNonDecreasingBy-from_sort row ys sorted in
    rising_from_places row ys (λ i j d below inside.
    let le = flat i j d (omega arith) inside in
    let ne = eqb-false _ _ (apart i j d below inside) in
    omega arith)

pub restored : {A : Type 0} (row : A → ℕ) (xs ys : List A) → rise 0 (map row xs) ≡ true → IsPermutation xs ys
    → IsSortedByKey row nat_cmp ys → ys ≡ xs
restored row xs ys rises moved sorted =
    let up = rising_from_rise row xs 0 rises in
    one_order row xs ys up (sorted_rises row ys sorted (rows_apart row xs ys up moved))
    (moved_in xs ys moved) (moved_in ys xs (IsPermutation-sym xs ys moved))

-- what a test keeps of items in some order, sorted by rows, is what it keeps of them in the order of rows
pub rows_again : {A : Type 0} (row : A → ℕ) (items : List A) (test : A → Bool) (xs found ys : List A) → rise 0 (map row items) ≡ true
    → IsPermutation items xs → found ≡ filter test xs → IsPermutation found ys → IsSortedByKey row nat_cmp ys → ys ≡ filter test items
rows_again row items test xs found ys rises moved kept again sorted =
    let same = (λ (a b : _). row a == row b) in
    let up = rising_from_rise row items 0 rises in
    let apart = IsDistinct-from_apart same xs (rows_apart row items xs up moved) in
    let distinct = IsDistinct-IsPermutation same (λ a b. nat_eq_equiv.symm (row a) (row b)) found ys again
    (subst (IsDistinct same) (sym kept) (distinct_kept same test xs apart)) in
    one_order row (filter test items) ys (rising_from_rise row (filter test items) 0 (rise-filter row test items 0 rises))
    (sorted_rises row ys sorted (λ i j d below inside. apart_from_distinct same ys i j d distinct below inside))
    (λ a k.
    let p = in_filter test items a k in
    moved_in found ys again a (subst (IsIn a) (sym kept) (filter_in test xs a (moved_in items xs moved a p.0) p.1)))
    (λ a k.
    let p = in_filter test xs a (subst (IsIn a) kept (moved_in ys found (IsPermutation-sym found ys again) a k)) in
    filter_in test items a (moved_in xs items (IsPermutation-sym items xs moved) a p.0) p.1)

-- ---- the rows of a register rise in each list

pub groups_up : (r : Register) → Rising (λ (g : Group). g.row) r.groups
groups_up r = rising_from_rise (λ (g : Group). g.row) r.groups 0 (groups_rise r)
