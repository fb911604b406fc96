-- Items that are kept by their prefixes: what one more item changes, and which one is the longest that covers a path.
use Rattle.std.proofs.Common.{◌≡◌, ℕ, zero, suc, ◌+◌, ◌<◌, ◌≤◌, Bool, true, false, cond, List, [], ◌∷◌, length, get_or, take, find, Option, Some, None, refl, sym, ap, ◌∙◌, arith, inl, inr}
use Rattle.std.specs.Prelude.{is_some}
use Rattle.std.specs.Option.{option_copied}
use Rattle.std.specs.FinMap.{FinMap, get, contains_key, insert, len}
use Rattle.std.specs.Cmp.Lexicographic.{nat_list_cmp_total}
use Rattle.ddt_path.specs.laws.MapSize.{len_inserted}
use denote.Ref.{Bor}
use Rattle.std.proofs.lemmas.Bool.{cases_lt, false≢true, false_from_ne_true}
use Rattle.ddt_path.specs.Covers.{covers, is_same_path}
use Rattle.ddt_path.specs.Matching.{longest_match}
use Rattle.ddt_path.specs.declared.matches.Preference.TheVariants.{Longest}
use Rattle.ddt_path.specs.laws.Cover.{same_path, path_itself}
use Rattle.ddt_path.specs.laws.Front.{one_front}
use Rattle.ddt_path.specs.laws.Member.{IsIn, contained, found_in, found_passes, unfound, found_now, found_before}
use Rattle.ddt_path.specs.laws.Matching.{best_is, best_none}
use Rattle.ddt_trie.specs.PrefixMap.{path_cmp, IsLongest, IsCovered}
use Rattle.ddt_review.specs.Warnings.Found.{HasItems, HaveOwnPrefixes}

-- one more entry, at most
pub few_more : {V : Type 0} (m n : FinMap path_cmp V) (p : List ℕ) (v : V) (i : ℕ) → n ≡ insert m p v → len m ≤ i
    → len n ≤ i + 1
few_more m n p v i is few =
    let same : len n ≡ len (insert m p v) = ap len is in
    let most : len (insert m p v) ≤ len m + 1 = len_inserted nat_list_cmp_total m p v in
    omega arith

pub in_take : {A : Type 0} (xs : List A) (n : ℕ) (y : A) → IsIn y (take n xs) → IsIn y xs
in_take xs zero y k = absurd k
in_take [] (suc n) y k = absurd k
in_take (x ∷ xs) (suc n) y (inl same) = inl same
in_take (x ∷ xs) (suc n) y (inr later) = inr (in_take xs n y later)

-- an item that passes is found
pub found_some : {A : Type 0} (test : A → Bool) (xs : List A) (x : A) → IsIn x xs → test x ≡ true
    → (y : A) × (find test xs ≡ Some y)
found_some {A} test xs x k e = go (find test xs) refl
  where
    go : (found : Option A) → find test xs ≡ found → (y : A) × (find test xs ≡ Some y)
    go None f = absurd (false≢true (sym (unfound test xs x f k) ∙ e))
    go (Some y) f = (y, f)

pub copied_cond : {A : Type 0} (b : Bool) (v : Bor A) (o : Option (Bor A))
    → option_copied (cond b (Some v) o) ≡ cond b (Some v.now) (option_copied o)
copied_cond true v o = refl
copied_cond false v o = refl

copied_some : {A : Type 0} (o : Option (Bor A)) (a : A) → option_copied o ≡ Some a → is_some o ≡ true
copied_some None a e = absurd cc
copied_some (Some b) a e = refl

module _ {A : Type 0} (path : A → List ℕ) (items : List A) where
  abbrev at : List ℕ → A → Bool
  at p a = is_same_path p (path a)

  module _ (apart : HaveOwnPrefixes path items) where
    one_at : (a b : A) (p : List ℕ) → IsIn a items → IsIn b items → at p a ≡ true → at p b ≡ true → a ≡ b
    one_at a b p j k e f =
        apart a b (contained items a j) (contained items b k) (sym (same_path p (path a) e) ∙ same_path p (path b) f)

    pub kept_more : (i : ℕ) (x : A) → i < length items → x ≡ get_or items i x → IsIn x items → (p : List ℕ)
        → cond (at p x) (Some x) (find (at p) (take i items)) ≡ find (at p) (take (i + 1) items)
    kept_more i x lt is k p = go (at p x) refl (find (at p) (take i items)) refl
      where
        go : (b : Bool) → at p x ≡ b → (found : Option A) → find (at p) (take i items) ≡ found
            → cond b (Some x) found ≡ find (at p) (take (i + 1) items)
        go true e None f = sym (found_now (at p) items i x lt is f e)
        go true e (Some y) f =
            let j = in_take items i y (found_in (at p) (take i items) y f) in
            ap (λ (a : A). Some a) (one_at x y p k j e (found_passes (at p) (take i items) y f))
            ∙ sym (found_before (at p) items i x lt is (Some y) f (inr refl))
        go false e found f = sym (found_before (at p) items i x lt is found f (inl e))

    module _ (kept : FinMap path_cmp (Bor A)) (has : HasItems path items kept) (x : List ℕ) where
      key_of : (b : A) → IsIn b items → contains_key kept (path b) ≡ true
      key_of b k =
          let f = found_some (at (path b)) items b k (path_itself (path b) (path b) refl) in
          copied_some (get kept (path b)) f.0 (has (path b) ∙ f.1)

      pub longest_kept : (p : List ℕ) (v : Bor A) → IsLongest kept x p v → longest_match path items x ≡ Some v.now
      longest_kept p v is =
          let f : find (at p) items ≡ Some v.now = sym (has p) ∙ ap option_copied is.value in
          let j = found_in (at p) items v.now f in
          let same : p ≡ path v.now = same_path p (path v.now) (found_passes (at p) items v.now f) in
          let n : length p ≡ length (path v.now) = ap length same in
          let inside : covers (path v.now) x ≡ true = ap (λ (q : List ℕ). covers q x) (sym same) ∙ is.covers_it in
          best_is Longest path x items v.now j inside (λ b k d.
          let le : length (path b) ≤ length p = is.longest (path b) (key_of b k) d in
          elim (cases_lt (length (path b)) (length p)) [
            | inl lt ↦ inr (omega arith)
            | inr ge ↦ inl (apart b v.now (contained items b k) (contained items v.now j)
                (one_front (path b) (path v.now) x d inside (omega arith)))
          ])

      pub none_kept : (IsCovered kept x → false ≡ true) → longest_match path items x ≡ None
      none_kept none = best_none Longest path x items
          (λ b k. false_from_ne_true (covers (path b) x) (λ d. absurd (false≢true (none (path b, key_of b k, d)))))
