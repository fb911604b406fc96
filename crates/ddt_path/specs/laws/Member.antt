-- Which items a list has, and tests that hold of one, of all and of none of them. What a test keeps of a list is in
-- FilterLemmas.
use Rattle.std.proofs.Common.{◌≡◌, ◌⊎◌, ℕ, zero, suc, ◌+◌, ◌<◌, ◌≤◌, Bool, true, false, cond, ◌||◌, List, [], ◌∷◌, length, get_or, map, take, drop, find, IsPermutation, Option, Some, None, refl, sym, ap, subst, ◌∙◌, arith, inl, inr}
use Rattle.std.specs.Prelude.{is_some, slice_get, not}
use Rattle.std.specs.List.{list_any, list_all, All, AllByRecursion, Contains}
use Rattle.std.specs.Option.{option_or}
use Rattle.std.proofs.lemmas.Bool.{cond-true, cond-false, false≢true, and_parts, or_parts, or_cases, or_left, or_right, and_cases, not-false}
use Rattle.std.proofs.lemmas.Option.{none-some, same_Some}
use Rattle.std.proofs.lemmas.List.{drop_more, take_more, get_or_default}
use Rattle.std.proofs.lemmas.List.Folds.{find-append}
use Rattle.std.proofs.lemmas.List.Sorted.{Contains-permutation, IsPermutation-sym}
use Rattle.std.proofs.lemmas.List.Elements.{All-from_recursion, Contains-get_or}

abbrev pub IsIn : {A : Type 0} → A → List A → Type 0
IsIn a [] = ⊥
IsIn a (b ∷ rest) = (a ≡ b) ⊎ IsIn a rest

pub in_at : {A : Type 0} (xs : List A) (i : ℕ) (x : A) → i < length xs → x ≡ get_or xs i x → IsIn x xs
in_at [] i x lt is = absurd (omega arith)
in_at (y ∷ xs) zero x lt is = inl is
in_at (y ∷ xs) (suc i) x lt is = inr (in_at xs i x (omega arith) is)

pub in_contained : {A : Type 0} (xs : List A) (x : A) → Contains xs x → IsIn x xs
in_contained xs x k = in_at xs k.0 x k.1 (sym k.2)

pub contained : {A : Type 0} (xs : List A) (x : A) → IsIn x xs → Contains xs x
contained [] x k = absurd k
contained (y ∷ xs) x (inl same) = (0, omega arith, sym same)
contained (y ∷ xs) x (inr later) = let k = contained xs x later in (suc k.0, omega (arith, k.1), k.2)

-- what stands at a place is a member, and each member stands at a place
pub in_get : {A : Type 0} (xs : List A) (k : ℕ) (x : A) → slice_get xs k ≡ Some x → IsIn x xs
in_get [] k x e = absurd cc
in_get (y ∷ xs) zero x e = inl cc
in_get (y ∷ xs) (suc k) x e = inr (in_get xs k x e)

pub get_in : {A : Type 0} (xs : List A) (x : A) → IsIn x xs → (k : ℕ) × (k < length xs) × (slice_get xs k ≡ Some x)
get_in [] x k = absurd k
get_in (y ∷ xs) x (inl same) = (0, omega arith, ap (λ (z : _). Some z) (sym same))
get_in (y ∷ xs) x (inr later) = let p = get_in xs x later in (suc p.0, omega (arith, p.1), p.2)

-- what stands at a place is among what stands from an earlier place on
pub in_drop : {A : Type 0} (xs : List A) (j k : ℕ) (x : A) → j ≤ k → slice_get xs k ≡ Some x → IsIn x (drop j xs)
in_drop xs zero k x le e = in_get xs k x e
in_drop [] (suc j) k x le e = absurd cc
in_drop (y ∷ xs) (suc j) zero x le e = absurd (omega arith)
in_drop (y ∷ xs) (suc j) (suc k) x le e = in_drop xs j k x (omega arith) e

-- a list in another order has the same members
pub moved_in : {A : Type 0} (xs ys : List A) → IsPermutation xs ys → (a : A) → IsIn a xs → IsIn a ys
moved_in xs ys moved a k = in_contained ys a (Contains-permutation xs ys a moved (contained xs a k))

-- each of them has a place there, and what stands at a place there is one of them
pub placed : {A : Type 0} (xs ys : List A) → IsPermutation xs ys → (a : A) → IsIn a xs → (d : A)
    → (j : ℕ) × (j < length ys) × (a ≡ get_or ys j d)
placed xs ys moved a k d =
    let c = Contains-permutation xs ys a moved (contained xs a k) in
    (c.0, c.1, sym c.2 ∙ get_or_default ys c.0 a d c.1)

pub placed_in : {A : Type 0} (xs ys : List A) → IsPermutation xs ys → (j : ℕ) (d : A) → j < length ys
    → IsIn (get_or ys j d) xs
placed_in xs ys moved j d lt =
    moved_in ys xs (IsPermutation-sym xs ys moved) (get_or ys j d) (in_contained ys (get_or ys j d) (Contains-get_or ys j d lt))

-- what is in the image of a list is the image of one of its members, and each member has its image there
pub in_map : {A B : Type 0} (f : A → B) (xs : List A) (y : B) → IsIn y (map f xs) → (x : A) × IsIn x xs × (y ≡ f x)
in_map f [] y k = absurd k
in_map f (x ∷ xs) y (inl same) = (x, inl refl, same)
in_map f (x ∷ xs) y (inr later) = let p = in_map f xs y later in (p.0, inr p.1, p.2)

pub map_in : {A B : Type 0} (f : A → B) (xs : List A) (x : A) → IsIn x xs → IsIn (f x) (map f xs)
map_in f [] x k = absurd k
map_in f (y ∷ xs) x (inl same) = inl (ap f same)
map_in f (y ∷ xs) x (inr later) = inr (map_in f xs x later)

-- tests that follow from each other are one
pub iff_same : (x y : Bool) → (x ≡ true → y ≡ true) → (y ≡ true → x ≡ true) → x ≡ y
iff_same true y f g = sym (f refl)
iff_same false true f g = g refl
iff_same false false f g = refl

pub all_of : {A : Type 0} (test : A → Bool) (xs : List A) → ((x : A) → IsIn x xs → test x ≡ true) → list_all test xs ≡ true
all_of test [] h = refl
all_of test (x ∷ xs) h = rw (h x (inl refl), all_of test xs (λ y k. h y (inr k))) refl

pub none_of : {A : Type 0} (test : A → Bool) (xs : List A) → ((x : A) → IsIn x xs → test x ≡ false) → list_any test xs ≡ false
none_of test [] h = refl
none_of test (x ∷ xs) h = rw (h x (inl refl), none_of test xs (λ y k. h y (inr k))) refl

pub fails_at : {A : Type 0} (test : A → Bool) (xs : List A) (x : A) → list_any test xs ≡ false → IsIn x xs → test x ≡ false
fails_at test [] x e h = absurd h
fails_at test (y ∷ xs) x e (inl same) = ap test same ∙ (or_parts (test y) (list_any test xs) e).0
fails_at test (y ∷ xs) x e (inr later) = fails_at test xs x (or_parts (test y) (list_any test xs) e).1 later

pub holds_at : {A : Type 0} (test : A → Bool) (xs : List A) (x : A) → list_all test xs ≡ true → IsIn x xs → test x ≡ true
holds_at test [] x e h = absurd h
holds_at test (y ∷ xs) x e (inl same) = ap test same ∙ (and_parts (test y) (list_all test xs) e).0
holds_at test (y ∷ xs) x e (inr later) = holds_at test xs x (and_parts (test y) (list_all test xs) e).1 later

-- some member passes if and only if the test of some member does
pub any_in : {A : Type 0} (test : A → Bool) (xs : List A) → list_any test xs ≡ true → (x : A) × IsIn x xs × (test x ≡ true)
any_in test [] e = absurd (false≢true e)
any_in test (y ∷ xs) e =
    elim (or_cases (test y) (list_any test xs) e) [
      | inl here ↦ (y, inl refl, here)
      | inr later ↦ let found = any_in test xs later in (found.0, inr found.1, found.2)
    ]

pub in_any : {A : Type 0} (test : A → Bool) (xs : List A) (x : A) → IsIn x xs → test x ≡ true → list_any test xs ≡ true
in_any test [] x k e = absurd k
in_any test (y ∷ xs) x (inl same) e = or_left (test y) (list_any test xs) (ap test (sym same) ∙ e)
in_any test (y ∷ xs) x (inr later) e = or_right (test y) (list_any test xs) (in_any test xs x later e)

-- where not all fail, some member passes
pub some_passes : {A : Type 0} (test : A → Bool) (xs : List A) → list_all (λ x. not (test x)) xs ≡ false → (x : A) × IsIn x xs × (test x ≡ true)
some_passes test [] e = absurd (false≢true (sym e))
some_passes test (y ∷ xs) e =
    elim (and_cases (not (test y)) (list_all (λ x. not (test x)) xs) e) [
      | inl here ↦ (y, inl refl, not-false (test y) here)
      | inr later ↦ let found = some_passes test xs later in (found.0, inr found.1, found.2)
    ]

-- what comes after an item is a member
pub in_later : {A : Type 0} (xs : List A) (n : ℕ) (y : A) → IsIn y (drop n xs) → IsIn y xs
in_later xs zero y k = k
in_later [] (suc n) y k = absurd k
in_later (x ∷ xs) (suc n) y k = inr (in_later xs n y k)

-- what is left at an item is that item and what comes after it
pub in_left : {A : Type 0} (xs : List A) (i : ℕ) (x y : A) → i < length xs → x ≡ get_or xs i x → (y ≡ x) ⊎ IsIn y (drop (i + 1) xs) → IsIn y (drop i xs)
in_left xs i x y lt is k = subst (IsIn y) (sym (drop_more xs i x lt ∙ ap (λ z. z ∷ drop (i + 1) xs) (sym is))) k

pub list_any-map : {A B : Type 0} (test : B → Bool) (f : A → B) (xs : List A) → list_any test (map f xs) ≡ list_any (λ x. test (f x)) xs
list_any-map test f [] = refl
list_any-map test f (x ∷ xs) = ap (λ b. test (f x) || b) (list_any-map test f xs)

-- what holds of all that is made of one list holds of a list of the same image
each_made : {A B C : Type 0} (P : C → Type 0) (f : A → C) (g : B → C) (xs : List A) (ys : List B) → ((y : B) → IsIn y ys → P (g y)) → map f xs ≡ map g ys → AllByRecursion (λ x. P (f x)) xs
each_made P f g [] ys h e = tt
each_made P f g (x ∷ xs) [] h e = absurd cc
each_made P f g (x ∷ xs) (y ∷ ys) h e =
    let first : f x ≡ g y = cc in
    let rest : map f xs ≡ map g ys = cc in
    (subst P (sym first) (h y (inl refl)), each_made P f g xs ys (λ z k. h z (inr k)) rest)

pub all_made : {A B C : Type 0} (P : C → Type 0) (f : A → C) (g : B → C) (xs : List A) (ys : List B) → ((y : B) → IsIn y ys → P (g y)) → map f xs ≡ map g ys → All (λ x. P (f x)) xs
all_made P f g xs ys h e = All-from_recursion (λ x. P (f x)) xs (each_made P f g xs ys h e)

-- what is found is a member that passes
found_case : {A : Type 0} (y : A) (xs : List A) (x : A) (rest : Option A) → (rest ≡ Some x → IsIn x xs) → (b : Bool) → cond b (Some y) rest ≡ Some x → IsIn x (y ∷ xs)
found_case y xs x rest ih true e = inl (sym (same_Some y x e))
found_case y xs x rest ih false e = inr (ih e)

pub found_in : {A : Type 0} (test : A → Bool) (xs : List A) (x : A) → find test xs ≡ Some x → IsIn x xs
found_in test [] x e = absurd (none-some x e)
found_in test (y ∷ xs) x e = found_case y xs x (find test xs) (found_in test xs x) (test y) e

found_case_passes : {A : Type 0} (test : A → Bool) (y x : A) (rest : Option A) → (rest ≡ Some x → test x ≡ true) → (b : Bool) → test y ≡ b → cond b (Some y) rest ≡ Some x → test x ≡ true
found_case_passes test y x rest ih true t e = ap test (sym (same_Some y x e)) ∙ t
found_case_passes test y x rest ih false t e = ih e

pub found_passes : {A : Type 0} (test : A → Bool) (xs : List A) (x : A) → find test xs ≡ Some x → test x ≡ true
found_passes test [] x e = absurd (none-some x e)
found_passes test (y ∷ xs) x e = found_case_passes test y x (find test xs) (found_passes test xs x) (test y) refl e

-- nothing is found if and only if no member passes
pub found_none : {A : Type 0} (test : A → Bool) (xs : List A) → ((x : A) → IsIn x xs → test x ≡ false) → find test xs ≡ None
found_none test [] none = refl
found_none test (x ∷ xs) none = rw (none x (inl refl)) (found_none test xs (λ y k. none y (inr k)))

unfound_case : {A : Type 0} (y : A) (rest : Option A) (b : Bool) → cond b (Some y) rest ≡ None → (b ≡ false) × (rest ≡ None)
unfound_case y rest true e = absurd (none-some y (sym e))
unfound_case y rest false e = (refl, e)

pub unfound : {A : Type 0} (test : A → Bool) (xs : List A) (x : A) → find test xs ≡ None → IsIn x xs → test x ≡ false
unfound test [] x e k = absurd k
unfound test (y ∷ xs) x e (inl same) = ap test same ∙ (unfound_case y (find test xs) (test y) e).0
unfound test (y ∷ xs) x e (inr later) = unfound test xs x (unfound_case y (find test xs) (test y) e).1 later

-- the first that passes among one item more
module _ {A : Type 0} (test : A → Bool) (xs : List A) (i : ℕ) (x : A) (lt : i < length xs) (is : x ≡ get_or xs i x) where
  found_more : find test (take (i + 1) xs) ≡ option_or (find test (take i xs)) (cond (test x) (Some x) None)
  found_more =
      ap (find test) (take_more xs i x lt)
      ∙ find-append test (take i xs) (get_or xs i x ∷ [])
      ∙ ap (λ (y : A). option_or (find test (take i xs)) (cond (test y) (Some y) None)) (sym is)

  pub found_now : find test (take i xs) ≡ None → test x ≡ true → find test (take (i + 1) xs) ≡ Some x
  found_now before e = found_more ∙ ap (λ (o : Option A). option_or o (cond (test x) (Some x) None)) before ∙ cond-true (test x) (Some x) None e

  pub found_before : (found : Option A) → find test (take i xs) ≡ found → (test x ≡ false) ⊎ (is_some found ≡ true) → find test (take (i + 1) xs) ≡ found
  found_before None before (inl e) = found_more ∙ ap (λ (o : Option A). option_or o (cond (test x) (Some x) None)) before ∙ cond-false (test x) (Some x) None e
  found_before None before (inr some) = absurd (false≢true some)
  found_before (Some y) before either = found_more ∙ ap (λ (o : Option A). option_or o (cond (test x) (Some x) None)) before
