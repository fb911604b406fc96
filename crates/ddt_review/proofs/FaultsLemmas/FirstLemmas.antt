-- The first item of each key, as a loop puts in the items one by one.
use Rattle.std.proofs.Common.{◌≡◌, ℕ, ◌+◌, ◌<◌, Bool, true, false, cond, List, [], ◌∷◌, length, take, get_or, find, Option, Some, None, refl, sym, ap, subst, ◌∙◌, ◌||◌, arith, Bor}
use Rattle.std.specs.Prelude.{is_some, unwrap_or}
use Rattle.std.specs.declared.cmp.Ordering.{Ordering}
use Rattle.std.specs.Option.{option_copied, option_map, option_or}
use Rattle.std.specs.Ordering.{eq_by_cmp}
use Rattle.std.specs.FinMap.{FinMap, get, insert, get-insert}
use Rattle.std.specs.Cmp.Lexicographic.{texts_ties, nat_list_cmp_total, nat_list_eq_equiv}
use Rattle.std.proofs.lemmas.Bool.{cond-true, cond-false, true≢false, false≢true}
use Rattle.std.proofs.lemmas.Bool.Decides.{nat_tests}
use Rattle.std.proofs.lemmas.List.{take_more}
use Rattle.std.proofs.lemmas.List.Folds.{find-append}
use Rattle.ddt_path.specs.declared.locator.Locator.{Locator}
use Rattle.ddt_path.specs.declared.locator.Locator.TheVariants.{V4, V6}
use Rattle.ddt_path.specs.Covers.{is_same_path}
use Rattle.ddt_path.specs.Locators.{is_same_locator}
use Rattle.ddt_path.specs.laws.Cover.{same_path}
use Rattle.ddt_path.specs.laws.Locator.{same_locator}
use Rattle.ddt_trie.specs.PrefixMap.{path_cmp}
use Rattle.ddt_review.specs.Faults.Told.{locator_cmp}

pub map_either : {A B : Type 0} (f : A → B) (a b : Option A)
    → option_map f (option_or a b) ≡ option_or (option_map f a) (option_map f b)
map_either f None b = refl
map_either f (Some x) b = refl

pub or_none : {A : Type 0} (o : Option A) → option_or o None ≡ o
or_none None = refl
or_none (Some x) = refl

-- ---- one more item

module _ {A V : Type 0} (f : A → V) (test : A → Bool) (xs : List A) (i : ℕ) (x : A)
    (lt : i < length xs) (is : x ≡ get_or xs i x) where
  found_more : find test (take (i + 1) xs) ≡ option_or (find test (take i xs)) (cond (test x) (Some x) None)
  found_more =
      ap (find test) (take_more xs i x lt)
      ∙ find-append test (take i xs) (get_or xs i x ∷ [])
      ∙ ap (λ (y : A). option_or (find test (take i xs)) (cond (test y) (Some y) None)) (sym is)

  made : (b : Bool) → cond b (Some (f x)) None ≡ option_map f (cond b (Some x) None)
  made true = refl
  made false = refl

  pub first_more : (old new : Option V) → old ≡ option_map f (find test (take i xs))
      → new ≡ option_or old (cond (test x) (Some (f x)) None) → new ≡ option_map f (find test (take (i + 1) xs))
  first_more old new before step =
      step
      ∙ ap (λ (o : Option V). option_or o (cond (test x) (Some (f x)) None)) before
      ∙ ap (option_or (option_map f (find test (take i xs)))) (made (test x))
      ∙ sym (map_either f (find test (take i xs)) (cond (test x) (Some x) None))
      ∙ ap (option_map f) (sym found_more)

-- ---- a value at a key that has none

module _ {K V : Type 0} (cmp : K → K → Ordering) (same : K → K → Bool)
    (ties : (a b : K) → eq_by_cmp cmp a b ≡ same a b) (decides : (a b : K) → same a b ≡ true → a ≡ b)
    (old new : K → Option V) (own : K) (v : V) (here : new own ≡ Some (unwrap_or (old own) v))
    (elsewhere : (k : K) → eq_by_cmp cmp own k ≡ false → new k ≡ old k) where
  kept_first : (o : Option V) → Some (unwrap_or o v) ≡ option_or o (Some v)
  kept_first None = refl
  kept_first (Some w) = refl

  pub put_at : (k : K) → new k ≡ option_or (old k) (cond (same own k) (Some v) None)
  put_at k = go (same own k) refl
    where
      go : (b : Bool) → same own k ≡ b → new k ≡ option_or (old k) (cond (same own k) (Some v) None)
      go true e =
          subst (λ (q : K). new q ≡ Some (unwrap_or (old q) v)) (decides own k e) here
          ∙ kept_first (old k)
          ∙ ap (option_or (old k)) (sym (cond-true (same own k) (Some v) None e))
      go false e =
          elsewhere k (ties own k ∙ e)
          ∙ sym (or_none (old k))
          ∙ ap (option_or (old k)) (sym (cond-false (same own k) (Some v) None e))

-- prefixes and names
pub put_path : {V : Type 0} (old new : List ℕ → Option V) (own : List ℕ) (v : V)
    → new own ≡ Some (unwrap_or (old own) v) → ((k : List ℕ) → eq_by_cmp path_cmp own k ≡ false → new k ≡ old k)
    → (k : List ℕ) → new k ≡ option_or (old k) (cond (is_same_path own k) (Some v) None)
put_path old new own v here elsewhere k =
    put_at path_cmp is_same_path (λ a b. sym (texts_ties a b)) same_path old new own v here elsewhere k

-- ---- locators

locator_ties : (a b : Locator) → eq_by_cmp locator_cmp a b ≡ is_same_locator a b
locator_ties (V4 a) (V4 b) = grind (arith, nat_tests)
locator_ties (V4 a) (V6 b) = refl
locator_ties (V6 a) (V4 b) = refl
locator_ties (V6 a) (V6 b) = grind (arith, nat_tests)

pub put_locator : {V : Type 0} (old new : Locator → Option V) (own : Locator) (v : V)
    → new own ≡ Some (unwrap_or (old own) v) → ((k : Locator) → eq_by_cmp locator_cmp own k ≡ false → new k ≡ old k)
    → (k : Locator) → new k ≡ option_or (old k) (cond (is_same_locator own k) (Some v) None)
put_locator old new own v here elsewhere k =
    put_at locator_cmp is_same_locator locator_ties same_locator old new own v here elsewhere k

or_again : {V : Type 0} (o : Option V) (v : V) (a b : Bool)
    → option_or (option_or o (cond a (Some v) None)) (cond b (Some v) None) ≡ option_or o (cond (a || b) (Some v) None)
or_again None v true b = refl
or_again None v false b = refl
or_again (Some w) v a b = refl

-- one value at one more locator of a list
pub locators_more : {V : Type 0} (o mid new : Option V) (v : V) (a b c : Bool)
    → mid ≡ option_or o (cond a (Some v) None) → new ≡ option_or mid (cond b (Some v) None) → c ≡ (a || b)
    → new ≡ option_or o (cond c (Some v) None)
locators_more o mid new v a b c before step is =
    step
    ∙ ap (λ (m : Option _). option_or m (cond b (Some v) None)) before
    ∙ or_again o v a b
    ∙ ap (λ (t : Bool). option_or o (cond t (Some v) None)) (sym is)

-- ---- a prefix in a tree

module _ {V : Type 0} (old : FinMap path_cmp V) (p : List ℕ) (v : V) (q : List ℕ) where
  known_case : (o : Option V) (b : Bool) → (b ≡ true → is_some o ≡ true) → o ≡ option_or o (cond b (Some v) None)
  known_case (Some w) b h = refl
  known_case None true h = absurd (false≢true (h refl))
  known_case None false h = refl

  pub tree_known : is_some (get old p) ≡ true
      → get old q ≡ option_or (get old q) (cond (is_same_path p q) (Some v) None)
  tree_known known = known_case (get old q) (is_same_path p q)
      (λ e. subst (λ (k : List ℕ). is_some (get old k) ≡ true) (same_path p q e) known)

  new_case : (o : Option V) (b : Bool) → (b ≡ true → o ≡ None)
      → cond b (Some v) o ≡ option_or o (cond b (Some v) None)
  new_case o true h = sym (ap (λ (k : Option V). option_or k (Some v)) (h refl))
  new_case o false h = sym (or_none o)

  pub tree_new : get old p ≡ None
      → get (insert old p v) q ≡ option_or (get old q) (cond (is_same_path p q) (Some v) None)
  tree_new none =
      get-insert nat_list_cmp_total old p v q
      ∙ ap (λ (b : Bool). cond b (Some v) (get old q)) (sym (texts_ties q p) ∙ nat_list_eq_equiv.symm q p)
      ∙ new_case (get old q) (is_same_path p q) (λ e. ap (get old) (sym (same_path p q e)) ∙ none)

pub copied_some : {V : Type 0} (o : Option (Bor V)) → is_some (option_copied o) ≡ is_some o
copied_some None = refl
copied_some (Some x) = refl

pub none_from : {V : Type 0} (o : Option V) → is_some o ≡ false → o ≡ None
none_from None e = refl
none_from (Some x) e = absurd (true≢false e)
