-- The first item of each key, as a loop over the items puts in that of each new key.
use Rattle.std.proofs.Common.{◌≡◌, ℕ, ◌+◌, ◌<◌, Bool, true, false, cond, List, length, take, get_or, find, Option, Some, None, refl, sym, ap, subst, ◌∙◌, inl, inr}
use Rattle.std.specs.Prelude.{is_some}
use Rattle.std.specs.Option.{option_map}
use Rattle.std.specs.Ordering.{nat_cmp}
use Rattle.std.specs.Cmp.Lexicographic.{slice_cmp, texts_ties}
use Rattle.std.specs.BTreeMap.{BTreeMap, get, Updates}
use Rattle.std.proofs.lemmas.Bool.{cond-true, cond-false, true≢false}
use Rattle.ddt_path.specs.Covers.{is_same_path}
use Rattle.ddt_path.specs.laws.Cover.{same_path}
use Rattle.ddt_path.specs.laws.Member.{found_now, found_before}

pub option_itself : {A : Type 0} (o : Option A) → option_map (λ a. a) o ≡ o
option_itself None = refl
option_itself (Some a) = refl

module _ {A V : Type 0} (key : A → List ℕ) (value : A → V) (items : List A) (i : ℕ) (a : A) (lt : i < length items)
    (is : a ≡ get_or items i a) (old new : BTreeMap (List ℕ) V) where
  abbrev keyed : List ℕ → A → Bool
  keyed k b = is_same_path (key b) k

  abbrev values : Option A → Option V
  values found = option_map value found

  module _ (before : (k : List ℕ) → get (slice_cmp nat_cmp) old k ≡ values (find (keyed k) (take i items))) where
    none_found : (found : Option A) → is_some (values found) ≡ false → found ≡ None
    none_found None e = refl
    none_found (Some b) e = absurd (true≢false e)

    some_found : (found : Option A) → is_some (values found) ≡ true → is_some found ≡ true
    some_found None e = e
    some_found (Some b) e = refl

    other_key : (k : List ℕ) → keyed k a ≡ false
        → get (slice_cmp nat_cmp) old k ≡ values (find (keyed k) (take (i + 1) items))
    other_key k e = before k
        ∙ ap values (sym (found_before (keyed k) items i a lt is (find (keyed k) (take i items)) refl (inl e)))

    -- a key that was put in
    pub key_put : (v : V) → v ≡ value a → is_some (get (slice_cmp nat_cmp) old (key a)) ≡ false
        → Updates (slice_cmp nat_cmp) old new (key a) (Some v)
        → (k : List ℕ) → get (slice_cmp nat_cmp) new k ≡ values (find (keyed k) (take (i + 1) items))
    key_put v made absent updates k =
        updates.0 k
        ∙ ap (λ (b : Bool). cond b (Some v) (get (slice_cmp nat_cmp) old k)) (sym (texts_ties (key a) k))
        ∙ by_key (keyed k a) refl
      where
        by_key : (b : Bool) → keyed k a ≡ b
            → cond (keyed k a) (Some v) (get (slice_cmp nat_cmp) old k) ≡ values (find (keyed k) (take (i + 1) items))
        by_key true e =
            let unknown = subst (λ (n : List ℕ). is_some (get (slice_cmp nat_cmp) old n) ≡ false) (same_path (key a) k e) absent in
            let none = none_found (find (keyed k) (take i items)) (ap is_some (sym (before k)) ∙ unknown) in
            cond-true (keyed k a) (Some v) _ e ∙ ap (λ (w : V). Some w) made
            ∙ ap values (sym (found_now (keyed k) items i a lt is none e))
        by_key false e = cond-false (keyed k a) (Some v) _ e ∙ other_key k e

    -- a key that was there
    pub key_kept : is_some (get (slice_cmp nat_cmp) old (key a)) ≡ true → (k : List ℕ)
        → get (slice_cmp nat_cmp) old k ≡ values (find (keyed k) (take (i + 1) items))
    key_kept present k = by_key (keyed k a) refl
      where
        by_key : (b : Bool) → keyed k a ≡ b
            → get (slice_cmp nat_cmp) old k ≡ values (find (keyed k) (take (i + 1) items))
        by_key true e =
            let known = subst (λ (n : List ℕ). is_some (get (slice_cmp nat_cmp) old n) ≡ true) (same_path (key a) k e) present in
            let some = some_found (find (keyed k) (take i items)) (ap is_some (sym (before k)) ∙ known) in
            before k
            ∙ ap values (sym (found_before (keyed k) items i a lt is (find (keyed k) (take i items)) refl (inr some)))
        by_key false e = other_key k e
