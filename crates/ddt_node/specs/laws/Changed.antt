-- Lists in which items change but keep their prefixes: what stays, and the one item that is found by its prefix and set.
use Rattle.std.proofs.Common.{◌≡◌, ℕ, zero, suc, ◌+◌, ◌<◌, Bool, true, false, List, [], ◌∷◌, map, length, get_or, set, cond, Option, Some, None, refl, sym, ap, ◌∙◌, arith, inl, inr}
use Rattle.std.specs.Prelude.{not, slice_get}
use Rattle.std.specs.List.{list_all, list_any}
use Rattle.std.specs.FinMap.{FinMap, find, get}
use Rattle.std.proofs.lemmas.Bool.{false≢true, false_from_ne_true, not-true, and_parts, and_from, cond-true, cond-false}
use Rattle.std.proofs.lemmas.Option.{none-some, same_Some, slice_get_within, get_or_from_slice_get}
use Rattle.ddt_path.specs.Covers.{is_same_path}
use Rattle.ddt_path.specs.laws.Cover.{same_path, path_itself}
use Rattle.ddt_path.specs.laws.Member.{IsIn, in_any, in_get}
use Rattle.ddt_trie.specs.PrefixMap.{path_cmp}
use Rattle.ddt_trie.specs.laws.Entry.{tied, tied-true, tied_self, get-map_of}
use Rattle.ddt_config.specs.Shaped.{no_two, have_own_prefixes}
use Rattle.ddt_node.specs.Places.{numbered, places}

-- ---- lists of changed items

-- what isn't changed of any item isn't changed of a list
pub map_kept : {A B : Type 0} (view : A → B) (f : A → A) → ((a : A) → view (f a) ≡ view a) → (xs : List A) → map view (map f xs) ≡ map view xs
map_kept view f h [] = refl
map_kept {B = B} view f h (x ∷ xs) =
    ap (λ (v : B). v ∷ map view (map f xs)) (h x) ∙ ap (λ (vs : List B). view x ∷ vs) (map_kept view f h xs)

pub any_kept : {A : Type 0} (test : A → A → Bool) (f : A → A) → ((a b : A) → test (f a) (f b) ≡ test a b) → (a : A) (xs : List A) → list_any (test (f a)) (map f xs) ≡ list_any (test a) xs
any_kept test f h a [] = refl
any_kept test f h a (x ∷ xs) = rw (h a x, any_kept test f h a xs) refl

pub no_two_kept : {A : Type 0} (test : A → A → Bool) (f : A → A) → ((a b : A) → test (f a) (f b) ≡ test a b) → (xs : List A) → no_two test (map f xs) ≡ no_two test xs
no_two_kept test f h [] = refl
no_two_kept test f h (x ∷ xs) = rw (any_kept test f h x xs, no_two_kept test f h xs) refl

pub all_kept : {A : Type 0} (test : A → Bool) (f : A → A) → ((a : A) → test a ≡ true → test (f a) ≡ true) → (xs : List A) → list_all test xs ≡ true → list_all test (map f xs) ≡ true
all_kept test f h [] e = refl
all_kept test f h (x ∷ xs) e =
    let parts = and_parts (test x) (list_all test xs) e in
    and_from (test (f x)) (list_all test (map f xs)) (h x parts.0) (all_kept test f h xs parts.1)

-- ---- the one item of a prefix

module _ {A : Type 0} (prefix : A → List ℕ) where
  -- an item of this prefix is changed; any other is as it was
  abbrev pub at_prefix : List ℕ → (A → A) → A → A
  at_prefix p f a = cond (is_same_path (prefix a) p) (f a) a

  module _ (p : List ℕ) (f : A → A) where
    abbrev changed : A → A
    changed = at_prefix p f

    -- where no item has the prefix, all are as they were
    pub all_stay : (xs : List A) → ((a : A) → IsIn a xs → is_same_path (prefix a) p ≡ false) → map changed xs ≡ xs
    all_stay [] others = refl
    all_stay (a ∷ xs) others =
        ap (λ (b : A). b ∷ map changed xs) (cond-false (is_same_path (prefix a) p) (f a) a (others a (inl refl)))
        ∙ ap (λ (ys : List A). a ∷ ys) (all_stay xs (λ b k. others b (inr k)))

    -- the item at a place that has the prefix is the only one that changes
    pub one_changes : (xs : List A) (k : ℕ) (x : A) → have_own_prefixes prefix xs ≡ true → slice_get xs k ≡ Some x → prefix x ≡ p
        → set xs k (f x) ≡ map changed xs
    one_changes [] k x own at has = absurd (none-some x at)
    one_changes (a ∷ xs) zero x own at has =
        let is : a ≡ x = same_Some a x at in
        let same : is_same_path (prefix a) p ≡ true = path_itself (prefix a) p (ap prefix is ∙ has) in
        let apart : list_any (λ (b : A). is_same_path (prefix a) (prefix b)) xs ≡ false =
        not-true _ (and_parts (not (list_any (λ (b : A). is_same_path (prefix a) (prefix b)) xs)) _ own).0 in
        let front : f x ≡ changed a = ap f (sym is) ∙ sym (cond-true (is_same_path (prefix a) p) (f a) a same) in
        let rest = all_stay xs (λ b k. false_from_ne_true _ (λ h. false≢true (sym apart ∙ in_any (λ (c : A). is_same_path (prefix a) (prefix c)) xs b k (path_itself (prefix a) (prefix b) (same_path (prefix a) p same ∙ sym (same_path (prefix b) p h)))))) in
        ap (λ (b : A). b ∷ xs) front ∙ ap (λ (ys : List A). changed a ∷ ys) (sym rest)
    one_changes (a ∷ xs) (suc k) x own at has =
        let parts = and_parts (not (list_any (λ (b : A). is_same_path (prefix a) (prefix b)) xs)) _ own in
        let apart : list_any (λ (b : A). is_same_path (prefix a) (prefix b)) xs ≡ false = not-true _ parts.0 in
        let other : is_same_path (prefix a) p ≡ false =
        false_from_ne_true _ (λ h. false≢true (sym apart ∙ in_any (λ (c : A). is_same_path (prefix a) (prefix c)) xs x (in_get xs k x at) (path_itself (prefix a) (prefix x) (same_path (prefix a) p h ∙ sym has)))) in
        ap (λ (ys : List A). a ∷ ys) (one_changes xs k x parts.1 at has)
        ∙ ap (λ (b : A). b ∷ map changed xs) (sym (cond-false (is_same_path (prefix a) p) (f a) a other))

  -- ---- where it is

  -- what numbered prefixes give for a prefix is the place of an item that has it
  numbered_place : (n : ℕ) (xs : List A) (p : List ℕ) (v : ℕ) → find path_cmp p (numbered n (map prefix xs)) ≡ Some v
      → (k : ℕ) × (x : A) × (v ≡ n + k) × (slice_get xs k ≡ Some x) × (prefix x ≡ p)
  numbered_place n [] p v e = absurd (none-some v e)
  numbered_place n (a ∷ xs) p v e = go (tied p (prefix a)) refl e (numbered_place (n + 1) xs p v)
    where
      go : (b : Bool) → tied p (prefix a) ≡ b → cond b (Some n) (find path_cmp p (numbered (n + 1) (map prefix xs))) ≡ Some v
          → (find path_cmp p (numbered (n + 1) (map prefix xs)) ≡ Some v
          → (k : ℕ) × (x : A) × (v ≡ n + 1 + k) × (slice_get xs k ≡ Some x) × (prefix x ≡ p))
          → (k : ℕ) × (x : A) × (v ≡ n + k) × (slice_get (a ∷ xs) k ≡ Some x) × (prefix x ≡ p)
      go true t is among = let same = same_Some n v is in (0, a, omega (arith, same), refl, sym (tied-true p (prefix a) t))
      go false t is among = let later = among is in (suc later.0, later.1, omega (arith, later.2), later.3, later.4)

  -- where they give none, no item has it
  numbered_none : (n : ℕ) (xs : List A) (p : List ℕ) → find path_cmp p (numbered n (map prefix xs)) ≡ None
      → (x : A) → IsIn x xs → is_same_path (prefix x) p ≡ false
  numbered_none n [] p e x k = absurd k
  numbered_none n (a ∷ xs) p e x k = go (tied p (prefix a)) refl e k (numbered_none (n + 1) xs p)
    where
      go : (b : Bool) → tied p (prefix a) ≡ b → cond b (Some n) (find path_cmp p (numbered (n + 1) (map prefix xs))) ≡ None
          → IsIn x (a ∷ xs) → (find path_cmp p (numbered (n + 1) (map prefix xs)) ≡ None → (y : A) → IsIn y xs → is_same_path (prefix y) p ≡ false)
          → is_same_path (prefix x) p ≡ false
      go true b is k later = absurd (none-some n (sym is))
      go false b is (inl here) later = false_from_ne_true _ (λ h. false≢true (sym b ∙ ap (tied p) (ap prefix (sym here) ∙ same_path (prefix x) p h) ∙ tied_self p))
      go false b is (inr k) later = later is x k

  module _ (p : List ℕ) (xs : List A) (m : FinMap path_cmp ℕ) (is : m ≡ places (map prefix xs)) where
    found_in : (r : Option ℕ) → get m p ≡ r → find path_cmp p (numbered 0 (map prefix xs)) ≡ r
    found_in r answer =
        sym (get-map_of (numbered 0 (map prefix xs)) p) ∙ ap (λ (n : FinMap path_cmp ℕ). get n p) (sym is) ∙ answer

    -- the place of a prefix is that of an item that has it
    pub item_at : (v : ℕ) → get m p ≡ Some v → (x : A) × (slice_get xs v ≡ Some x) × (prefix x ≡ p)
    item_at v answer =
        let k = numbered_place 0 xs p v (found_in (Some v) answer) in
        let at : k.0 ≡ v = omega (arith, k.2) in
        (k.1, ap (slice_get xs) (sym at) ∙ k.3, k.4)

    pub place_inside : (v : ℕ) → get m p ≡ Some v → v < length xs
    place_inside v answer = let x = item_at v answer in slice_get_within xs v x.0 x.1

    -- the item at that place is set
    pub one_is_set : (f : A → A) (v : ℕ) (now : List A) (x : A) → have_own_prefixes prefix xs ≡ true → get m p ≡ Some v
        → now ≡ xs → x ≡ get_or now v x → set now v (f x) ≡ map (at_prefix p f) xs
    one_is_set f v now x own answer same read =
        let there = item_at v answer in
        let item : x ≡ there.0 = read ∙ ap (λ (ys : List A). get_or ys v x) same ∙ get_or_from_slice_get xs v there.0 x there.1 in
        rw same (ap (λ (y : A). set xs v (f y)) item ∙ one_changes p f xs v there.0 own there.1 there.2)

    pub none_is_set : (f : A → A) → get m p ≡ None → map (at_prefix p f) xs ≡ xs
    none_is_set f answer = all_stay p f xs (numbered_none 0 xs p (found_in None answer))
