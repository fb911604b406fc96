-- What a test keeps of a list.
use Rattle.std.proofs.Common.{◌≡◌, ℕ, zero, suc, ◌+◌, ◌<◌, ◌≤◌, Bool, true, false, cond, List, [], ◌∷◌, ◌++◌, length, get_or, map, take, refl, sym, ap, subst, ◌∙◌, arith, inl, inr}
use Rattle.std.specs.List.{list_all, filter, AllByRecursion, IsDistinct}
use Rattle.std.proofs.lemmas.Bool.{cond-true, cond-false, false≢true}
use Rattle.std.proofs.lemmas.List.{append-nil, map-append}
use Rattle.std.proofs.lemmas.List.Elements.{filter_more}
use Rattle.std.proofs.lemmas.List.Folds.{list_all-map}
use Rattle.ddt_path.specs.laws.Member.{IsIn, all_of}

-- ---- its members are those that pass

in_kept : {A : Type 0} (test : A → Bool) (y : A) (xs kept : List A) (x : A) → (IsIn x kept → IsIn x xs × (test x ≡ true)) → (b : Bool) → test y ≡ b → IsIn x (cond b (y ∷ kept) kept) → IsIn x (y ∷ xs) × (test x ≡ true)
in_kept test y xs kept x ih true e (inl same) = (inl same, ap test same ∙ e)
in_kept test y xs kept x ih true e (inr later) = let p = ih later in (inr p.0, p.1)
in_kept test y xs kept x ih false e later = let p = ih later in (inr p.0, p.1)

pub in_filter : {A : Type 0} (test : A → Bool) (xs : List A) (x : A) → IsIn x (filter test xs) → IsIn x xs × (test x ≡ true)
in_filter test [] x h = absurd h
in_filter test (y ∷ xs) x h = in_kept test y xs (filter test xs) x (in_filter test xs x) (test y) refl h

in_more : {A : Type 0} (y : A) (kept : List A) (x : A) (b : Bool) → IsIn x kept → IsIn x (cond b (y ∷ kept) kept)
in_more y kept x true h = inr h
in_more y kept x false h = h

pub filter_in : {A : Type 0} (test : A → Bool) (xs : List A) (x : A) → IsIn x xs → test x ≡ true → IsIn x (filter test xs)
filter_in test [] x h e = absurd h
filter_in test (y ∷ xs) x (inl same) e = subst (IsIn x) (sym (cond-true (test y) (y ∷ filter test xs) (filter test xs) (ap test (sym same) ∙ e))) (inl same)
filter_in test (y ∷ xs) x (inr later) e = in_more y (filter test xs) x (test y) (filter_in test xs x later e)

-- tests that agree at each member keep the same members
pub filter_same : {A : Type 0} (p q : A → Bool) (xs : List A) → ((x : A) → IsIn x xs → p x ≡ q x) → filter p xs ≡ filter q xs
filter_same p q [] h = refl
filter_same p q (x ∷ xs) h = rw (h x (inl refl), filter_same p q xs (λ y k. h y (inr k))) refl

pub all_kept : {A B : Type 0} (f : A → B) (good : B → Bool) (test : A → Bool) (xs : List A) → ((a : A) → IsIn a xs → test a ≡ true → good (f a) ≡ true) → list_all good (map f (filter test xs)) ≡ true
all_kept f good test xs h = list_all-map good f (filter test xs) ∙ all_of (λ x. good (f x)) (filter test xs) (λ x k. let p = in_filter test xs x k in h x p.0 p.1)

-- a test that all pass keeps all
pub filter_everything : {A : Type 0} (xs : List A) → filter (λ _. true) xs ≡ xs
filter_everything [] = refl
filter_everything (x ∷ xs) = ap (λ (l : _). x ∷ l) (filter_everything xs)

-- of what is kept by a weaker test first, a test keeps what it keeps of all
pub kept_by_both : {A B : Type 0} (f : A → B) (weak : A → Bool) (test : B → Bool) → ((a : A) → test (f a) ≡ true → weak a ≡ true)
    → (xs : List A) → filter test (map f (filter weak xs)) ≡ map f (filter (λ a. test (f a)) xs)
kept_by_both f weak test implies [] = refl
kept_by_both {A} f weak test implies (x ∷ xs) =
    elim (weak x) as (λ w. weak x ≡ w → filter test (map f (cond w (x ∷ filter weak xs) (filter weak xs))) ≡ map f (filter (λ a. test (f a)) (x ∷ xs))) [
      | true ↦ λ e.
          elim (test (f x)) as (λ t. cond t (f x ∷ filter test (map f (filter weak xs))) (filter test (map f (filter weak xs))) ≡ map f (cond t (x ∷ filter (λ a. test (f a)) xs) (filter (λ a. test (f a)) xs))) [
            | true ↦ ap (λ (ys : List _). f x ∷ ys) (kept_by_both f weak test implies xs)
            | false ↦ kept_by_both f weak test implies xs
          ]
      | false ↦ λ e. kept_by_both f weak test implies xs ∙ sym (ap (map f) (dropped (test (f x)) x xs (λ t. absurd (false≢true (sym e ∙ implies x t)))))
    ] refl
  where
    dropped : (b : Bool) (y : A) (ys : List A) → (b ≡ true → ⊥) → cond b (y ∷ filter (λ a. test (f a)) ys) (filter (λ a. test (f a)) ys) ≡ filter (λ a. test (f a)) ys
    dropped true y ys none = absurd (none refl)
    dropped false y ys none = refl

-- ---- what holds of all, or of each two, holds of those that are kept

each_with : {A : Type 0} (P : A → Type 0) (x : A) (kept : List A) → P x → AllByRecursion P kept → (b : Bool) → AllByRecursion P (cond b (x ∷ kept) kept)
each_with P x kept h rest true = (h, rest)
each_with P x kept h rest false = rest

pub each_kept : {A : Type 0} (P : A → Type 0) (test : A → Bool) (xs : List A) → AllByRecursion P xs → AllByRecursion P (filter test xs)
each_kept P test [] h = tt
each_kept P test (x ∷ xs) h = each_with P x (filter test xs) h.0 (each_kept P test xs h.1) (test x)

distinct_with : {A : Type 0} (e : A → A → Bool) (x : A) (kept : List A) → AllByRecursion (λ y. e x y ≡ false) kept → IsDistinct e kept → (b : Bool) → IsDistinct e (cond b (x ∷ kept) kept)
unfolding IsDistinct
distinct_with e x kept h rest true = (h, rest)
distinct_with e x kept h rest false = rest

pub distinct_kept : {A : Type 0} (e : A → A → Bool) (test : A → Bool) (xs : List A) → IsDistinct e xs → IsDistinct e (filter test xs)
unfolding IsDistinct
distinct_kept e test [] h = h
distinct_kept e test (x ∷ xs) h = distinct_with e x (filter test xs) (each_kept (λ y. e x y ≡ false) test xs h.0) (distinct_kept e test xs h.1) (test x)

-- ---- what it keeps of the first items

-- where none passes from a place on, the items before it are enough
pub none_later : {A : Type 0} (test : A → Bool) (xs : List A) (i : ℕ) → ((k : ℕ) (d : A) → i ≤ k → k < length xs → test (get_or xs k d) ≡ false) → filter test (take i xs) ≡ filter test xs
none_later test [] zero h = refl
none_later test [] (suc i) h = refl
none_later test (x ∷ xs) zero h =
    none_later test xs zero (λ k d le lt. h (suc k) d (omega arith) (omega arith)) ∙ sym (cond-false (test x) (x ∷ filter test xs) (filter test xs) (h 0 x (omega arith) (omega arith)))
none_later test (x ∷ xs) (suc i) h = ap (λ (kept : List _). cond (test x) (x ∷ kept) kept) (none_later test xs i (λ k d le lt. h (suc k) d (omega arith) (omega arith)))

pub none_first : {A : Type 0} (test : A → Bool) (xs : List A) (i : ℕ) → ((k : ℕ) (d : A) → k < i → k < length xs → test (get_or xs k d) ≡ false) → filter test (take i xs) ≡ []
none_first test [] zero h = refl
none_first test [] (suc i) h = refl
none_first test (x ∷ xs) zero h = refl
none_first test (x ∷ xs) (suc i) h =
    cond-false (test x) (x ∷ filter test (take i xs)) (filter test (take i xs)) (h 0 x (omega arith) (omega arith))
    ∙ none_first test xs i (λ k d lt inside. h (suc k) d (omega arith) (omega arith))

-- one more item: it is kept behind the others, or it isn't
module _ {A : Type 0} (test : A → Bool) (xs : List A) (i : ℕ) (x : A) (lt : i < length xs) (is : x ≡ get_or xs i x) where
  one_more : filter test (take (i + 1) xs) ≡ filter test (take i xs) ++ cond (test x) (x ∷ []) []
  one_more = filter_more test xs i x lt ∙ ap (λ (y : A). filter test (take i xs) ++ cond (test y) (y ∷ []) []) (sym is)

  pub one_kept : test x ≡ true → filter test (take i xs) ++ x ∷ [] ≡ filter test (take (i + 1) xs)
  one_kept e = ap (λ (b : Bool). filter test (take i xs) ++ cond b (x ∷ []) []) (sym e) ∙ sym one_more

  pub one_left_out : test x ≡ false → filter test (take i xs) ≡ filter test (take (i + 1) xs)
  one_left_out e = sym (append-nil (filter test (take i xs))) ∙ ap (λ (b : Bool). filter test (take i xs) ++ cond b (x ∷ []) []) (sym e) ∙ sym one_more

  -- the same of what is made of each
  pub one_made : {V : Type 0} (f : A → V) → test x ≡ true → map f (filter test (take i xs)) ++ f x ∷ [] ≡ map f (filter test (take (i + 1) xs))
  one_made f e = sym (map-append f (filter test (take i xs)) (x ∷ [])) ∙ ap (map f) (one_kept e)

  pub none_made : {V : Type 0} (f : A → V) → test x ≡ false → map f (filter test (take i xs)) ≡ map f (filter test (take (i + 1) xs))
  none_made f e = ap (map f) (one_left_out e)

-- ---- how many pass

-- a narrower test passes no more
pub narrower : {A : Type 0} (wide narrow : A → Bool) (xs : List A) → ((a : A) → narrow a ≡ true → wide a ≡ true) → length (filter narrow xs) ≤ length (filter wide xs)
narrower wide narrow [] h = omega arith
narrower wide narrow (a ∷ xs) h = by (narrower wide narrow xs h) (narrow a) (wide a) (h a)
  where
    by : length (filter narrow xs) ≤ length (filter wide xs) → (b c : Bool) → (b ≡ true → c ≡ true)
        → length (cond b (a ∷ filter narrow xs) (filter narrow xs)) ≤ length (cond c (a ∷ filter wide xs) (filter wide xs))
    by rest true true k = omega (arith, rest)
    by rest true false k = absurd (false≢true (k refl))
    by rest false true k = omega (arith, rest)
    by rest false false k = omega (arith, rest)

-- and fewer where a member passes the wider alone
pub fewer : {A : Type 0} (wide narrow : A → Bool) (xs : List A) (a : A) → ((b : A) → narrow b ≡ true → wide b ≡ true) → IsIn a xs → wide a ≡ true → narrow a ≡ false → length (filter narrow xs) < length (filter wide xs)
fewer wide narrow [] a h among passes not = absurd among
fewer wide narrow (b ∷ xs) a h (inl same) passes not =
    let rest : length (filter narrow xs) ≤ length (filter wide xs) = narrower wide narrow xs h in
    let c : narrow b ≡ false = subst (λ v. narrow v ≡ false) same not in
    let d : wide b ≡ true = subst (λ v. wide v ≡ true) same passes in
    rw (c, d) (omega (arith, rest))
fewer wide narrow (b ∷ xs) a h (inr later) passes not = by (fewer wide narrow xs a h later passes not) (narrow b) (wide b) (h b)
  where
    by : length (filter narrow xs) < length (filter wide xs) → (c d : Bool) → (c ≡ true → d ≡ true)
        → length (cond c (b ∷ filter narrow xs) (filter narrow xs)) < length (cond d (b ∷ filter wide xs) (filter wide xs))
    by rest true true k = omega (arith, rest)
    by rest true false k = absurd (false≢true (k refl))
    by rest false true k = omega (arith, rest)
    by rest false false k = omega (arith, rest)
