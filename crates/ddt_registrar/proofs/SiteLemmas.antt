-- The site of a prefix, by the map of the places and by a walk through the list; and what follows where it changes.
use Rattle.std.proofs.Common.{◌≡◌, ℕ, zero, suc, ◌+◌, Bool, true, false, cond, List, [], ◌∷◌, ◌++◌, length, map, get_or, set, Option, Some, None, refl, sym, ap, subst, ◌∙◌, arith, inl, inr}
use Rattle.std.specs.Prelude.{not, filter, find as find_item, slice_get}
use Rattle.std.specs.List.{list_any}
use Rattle.std.specs.FinMap.{FinMap, find, get, insert, len}
use Rattle.std.proofs.lemmas.Bool.{false≢true, not-true, not_from_false, and_parts, and_from, or_parts, or_from}
use Rattle.std.proofs.lemmas.List.{length-map}
use Rattle.std.proofs.lemmas.List.Folds.{list_any-append}
use Rattle.std.proofs.lemmas.Option.{none-some, same_Some, get_or_from_slice_get}
use Rattle.ddt_path.specs.Covers.{is_same_path}
use Rattle.ddt_path.specs.laws.Cover.{same_path, path_itself}
use Rattle.ddt_path.specs.laws.Member.{IsIn, iff_same, in_any, in_get}
use Rattle.ddt_trie.specs.PrefixMap.{path_cmp}
use Rattle.ddt_trie.specs.Entries.{have_own_keys, map_of}
use Rattle.ddt_trie.specs.laws.Entry.{tied, tied-true, tied_self, get-map_of, len-map_of, map_of_push, more_distinct}
use Rattle.ddt_config.specs.Table.{Outline}
use Rattle.ddt_config.specs.Shaped.{have_own_prefixes}
use Rattle.ddt_node.specs.Etrs.{with_etrs}
use Rattle.ddt_node.specs.Places.{numbered, places}
use Rattle.ddt_node.specs.laws.Changed.{map_kept, no_two_kept, at_prefix, item_at, one_is_set}
use Rattle.ddt_registrar.specs.Registration.{is_in_force}
use Rattle.ddt_registrar.specs.State.{Registration, Site}
use Rattle.ddt_registrar.specs.Taking.{AreFound, site_at, etrs_in_force, in_force}
use Rattle.ddt_registrar.specs.laws.InForce.{one_site_is_set}

module _ {A : Type 0} (prefix : A → List ℕ) (p : List ℕ) where
  abbrev has_it : A → Bool
  has_it a = is_same_path (prefix a) p

  same_test : (a : A) → tied p (prefix a) ≡ has_it a
  same_test a = iff_same (tied p (prefix a)) (has_it a)
      (λ t. path_itself (prefix a) p (sym (tied-true p (prefix a) t)))
      (λ s. ap (tied p) (same_path (prefix a) p s) ∙ tied_self p)

  found_from : (n : ℕ) (xs : List A) (v : ℕ) → find path_cmp p (numbered n (map prefix xs)) ≡ Some v
      → (k : ℕ) × (x : A) × (v ≡ n + k) × (slice_get xs k ≡ Some x) × (find_item has_it xs ≡ Some x)
  found_from n [] v e = absurd (none-some v e)
  found_from n (a ∷ xs) v e = go (tied p (prefix a)) (same_test a) e (found_from (n + 1) xs v)
    where
      go : (b : Bool) → b ≡ has_it a → cond b (Some n) (find path_cmp p (numbered (n + 1) (map prefix xs))) ≡ Some v
          → (find path_cmp p (numbered (n + 1) (map prefix xs)) ≡ Some v
          → (k : ℕ) × (x : A) × (v ≡ n + 1 + k) × (slice_get xs k ≡ Some x) × (find_item has_it xs ≡ Some x))
          → (k : ℕ) × (x : A) × (v ≡ n + k) × (slice_get (a ∷ xs) k ≡ Some x) × (find_item has_it (a ∷ xs) ≡ Some x)
      go true t is later = let same = same_Some n v is in (0, a, omega (arith, same), refl, ap (λ (b : Bool). cond b (Some a) (find_item has_it xs)) (sym t))
      go false t is later =
          let k = later is in
          (suc k.0, k.1, omega (arith, k.2), k.3, ap (λ (b : Bool). cond b (Some a) (find_item has_it xs)) (sym t) ∙ k.4)

  none_from : (n : ℕ) (xs : List A) → find path_cmp p (numbered n (map prefix xs)) ≡ None → find_item has_it xs ≡ None
  none_from n [] e = refl
  none_from n (a ∷ xs) e = go (tied p (prefix a)) (same_test a) e (none_from (n + 1) xs)
    where
      go : (b : Bool) → b ≡ has_it a → cond b (Some n) (find path_cmp p (numbered (n + 1) (map prefix xs))) ≡ None
          → (find path_cmp p (numbered (n + 1) (map prefix xs)) ≡ None → find_item has_it xs ≡ None) → find_item has_it (a ∷ xs) ≡ None
      go true t is later = absurd (none-some n (sym is))
      go false t is later = ap (λ (b : Bool). cond b (Some a) (find_item has_it xs)) (sym t) ∙ later is

  module _ (xs : List A) (m : FinMap path_cmp ℕ) (is : m ≡ places (map prefix xs)) where
    answer_is : (r : Option ℕ) → get m p ≡ r → find path_cmp p (numbered 0 (map prefix xs)) ≡ r
    answer_is r answer =
        sym (get-map_of (numbered 0 (map prefix xs)) p) ∙ ap (λ (n : FinMap path_cmp ℕ). get n p) (sym is) ∙ answer

    -- the item at the place of a prefix is the first that has it
    pub found_at : (v : ℕ) → get m p ≡ Some v → find_item has_it xs ≡ slice_get xs v
    found_at v answer =
        let k = found_from 0 xs v (answer_is (Some v) answer) in
        let at : k.0 ≡ v = omega (arith, k.2) in
        k.4 ∙ sym k.3 ∙ ap (slice_get xs) at

    -- where there is no place, no item has it
    pub not_found : get m p ≡ None → find_item has_it xs ≡ None
    not_found answer = none_from 0 xs (answer_is None answer)

-- ---- the place of a site

no_none : {A : Type 0} (test : A → Bool) (xs : List A) → find_item test xs ≡ None → (x : A) → IsIn x xs → test x ≡ false
no_none test [] none x k = absurd k
no_none {A = A} test (a ∷ xs) none x k = go (test a) refl none k (no_none test xs)
  where
    go : (b : Bool) → test a ≡ b → cond b (Some a) (find_item test xs) ≡ None → IsIn x (a ∷ xs)
        → (find_item test xs ≡ None → (y : A) → IsIn y xs → test y ≡ false) → test x ≡ false
    go true t is k later = absurd (none-some a (sym is))
    go false t is (inl here) later = ap test here ∙ t
    go false t is (inr k) later = later is x k

-- two places of one prefix are one
one_place : {A : Type 0} (prefix : A → List ℕ) (xs : List A) (i j : ℕ) (a b : A) → have_own_prefixes prefix xs ≡ true
    → slice_get xs i ≡ Some a → slice_get xs j ≡ Some b → prefix a ≡ prefix b → i ≡ j
one_place prefix [] i j a b own at_i at_j same = absurd (none-some a at_i)
one_place prefix (x ∷ xs) zero zero a b own at_i at_j same = refl
one_place prefix (x ∷ xs) zero (suc j) a b own at_i at_j same =
    absurd (false≢true (sym (not-true _ (and_parts (not (list_any (λ y. is_same_path (prefix x) (prefix y)) xs)) _ own).0)
    ∙ in_any (λ y. is_same_path (prefix x) (prefix y)) xs b (in_get xs j b at_j) (path_itself (prefix x) (prefix b) (ap prefix (same_Some x a at_i) ∙ same))))
one_place prefix (x ∷ xs) (suc i) zero a b own at_i at_j same =
    absurd (false≢true (sym (not-true _ (and_parts (not (list_any (λ y. is_same_path (prefix x) (prefix y)) xs)) _ own).0)
    ∙ in_any (λ y. is_same_path (prefix x) (prefix y)) xs a (in_get xs i a at_i) (path_itself (prefix x) (prefix a) (ap prefix (same_Some x b at_j) ∙ sym same))))
one_place prefix (x ∷ xs) (suc i) (suc j) a b own at_i at_j same =
    ap (λ (n : ℕ). suc n) (one_place prefix xs i j a b (and_parts (not (list_any (λ y. is_same_path (prefix x) (prefix y)) xs)) _ own).1 at_i at_j same)

-- the map has the place of each site
pub place_at : (m : FinMap path_cmp ℕ) (sites : List Site) → AreFound m sites → (v : ℕ) (x : Site) → slice_get sites v ≡ Some x → get m x.prefix ≡ Some v
place_at m sites found v x at = go (get m x.prefix) refl
  where
    go : (o : Option ℕ) → get m x.prefix ≡ o → o ≡ Some v
    go None answer =
        absurd (false≢true (sym (no_none (has_it (λ (s : Site). s.prefix) x.prefix) sites (not_found (λ (s : Site). s.prefix) x.prefix sites m found.of_sites answer) x (in_get sites v x at))
        ∙ path_itself x.prefix x.prefix refl))
    go (Some k) answer =
        let there = item_at (λ (s : Site). s.prefix) x.prefix sites m found.of_sites k answer in
        ap (λ (n : ℕ). Some n) (one_place (λ (s : Site). s.prefix) sites k v there.0 x found.own there.1 at there.2)

-- the item at the place of a prefix is the one that is found
pub found_there : (p : List ℕ) (sites : List Site) (m : FinMap path_cmp ℕ) → AreFound m sites → (v : ℕ) (x : Site) → get m p ≡ Some v
    → x ≡ get_or sites v x → find_item (has_it (λ (s : Site). s.prefix) p) sites ≡ Some x
found_there p sites m found v x answer read =
    let there = item_at (λ (s : Site). s.prefix) p sites m found.of_sites v answer in
    let item : there.0 ≡ x = sym (get_or_from_slice_get sites v there.0 x there.1) ∙ sym read in
    found_at (λ (s : Site). s.prefix) p sites m found.of_sites v answer ∙ there.1 ∙ ap (λ (s : Site). Some s) item

-- ---- a site that changes

module _ (p : List ℕ) (f : Site → Site) (kept : (s : Site) → (f s).prefix ≡ s.prefix) where
  abbrev changed : Site → Site
  changed = at_prefix (λ (s : Site). s.prefix) p f

  changed_kept : (s : Site) → (changed s).prefix ≡ s.prefix
  changed_kept s = go (is_same_path s.prefix p)
    where
      go : (b : Bool) → (cond b (f s) s).prefix ≡ s.prefix
      go true = kept s
      go false = refl

  module _ (sites : List Site) (m : FinMap path_cmp ℕ) (found : AreFound m sites) where
    still_found : AreFound m (map changed sites)
    still_found = record {
      of_sites = found.of_sites ∙ ap places (sym (map_kept (λ (s : Site). s.prefix) changed changed_kept sites));
      own = no_two_kept (λ (s t : Site). is_same_path s.prefix t.prefix) changed
          (λ s t. ap (λ (q : List ℕ). is_same_path q (changed t).prefix) (changed_kept s) ∙ ap (is_same_path s.prefix) (changed_kept t)) sites
          ∙ found.own;
    }

    module _ (v : ℕ) (x y : Site) (answer : get m p ≡ Some v) (read : x ≡ get_or sites v x) (is : y ≡ f x) where
      -- setting it is changing the sites at its prefix
      pub set_is_changed : set sites v y ≡ map changed sites
      set_is_changed =
          ap (set sites v) is
          ∙ one_is_set (λ (s : Site). s.prefix) p sites m found.of_sites f v sites x found.own answer refl read

      pub set_is_found : AreFound m (set sites v y)
      set_is_found = subst (λ (ss : List Site). AreFound m ss) (sym set_is_changed) still_found

      -- the configuration in force changes by its ETRs
      pub set_is_followed : (c : Outline) → in_force (set sites v y) c ≡ with_etrs y.prefix (etrs_in_force y) (in_force sites c)
      set_is_followed c =
          let there = item_at (λ (s : Site). s.prefix) p sites m found.of_sites v answer in
          let item : there.0 ≡ x = sym (get_or_from_slice_get sites v there.0 x there.1) ∙ sym read in
          let at : slice_get sites v ≡ Some x = there.1 ∙ ap (λ (s : Site). Some s) item in
          let has : x.prefix ≡ p = ap (λ (s : Site). s.prefix) (sym item) ∙ there.2 in
          let of_y : y.prefix ≡ p = ap (λ (s : Site). s.prefix) is ∙ kept x ∙ has in
          ap (λ (ss : List Site). in_force ss c) set_is_changed
          ∙ one_site_is_set sites p f v x kept found.own at has c
          ∙ ap (λ (s : Site). with_etrs p (etrs_in_force s) (in_force sites c)) (sym is)
          ∙ ap (λ (q : List ℕ). with_etrs q (etrs_in_force y) (in_force sites c)) (sym of_y)

-- ---- the clock

-- where nothing is over, filtering changes nothing
all_in_force : {A : Type 0} (test : A → Bool) (xs : List A) → list_any (λ x. not (test x)) xs ≡ false → filter test xs ≡ xs
all_in_force test [] none = refl
all_in_force test (x ∷ xs) none = go (test x) (or_parts (not (test x)) (list_any (λ y. not (test y)) xs) none) (all_in_force test xs)
  where
    go : (b : Bool) → (not b ≡ false) × (list_any (λ y. not (test y)) xs ≡ false) → (list_any (λ y. not (test y)) xs ≡ false → filter test xs ≡ xs)
        → cond b (x ∷ filter test xs) (filter test xs) ≡ x ∷ xs
    go true parts later = ap (λ ys. x ∷ ys) (later parts.1)
    go false parts later = absurd (false≢true (sym parts.0))

pub still_in_force : (now : ℕ) (s : Site) → list_any (λ r. not (is_in_force now r)) s.live ≡ false → s ≡ site_at now s
still_in_force now s none =
    ap (λ (live_ : List Registration). let t : Site = record {
      prefix = s.prefix;
      keys = s.keys;
      configured = s.configured;
      falls_back = s.falls_back;
      has_registered = s.has_registered;
      live = live_;
      nonces = s.nonces;
    } in t) (sym (all_in_force (is_in_force now) s.live none))

-- ---- an item that is set as it is

pub set_as_it_is : {A : Type 0} (xs : List A) (k : ℕ) (x : A) → slice_get xs k ≡ Some x → set xs k x ≡ xs
set_as_it_is [] k x at = absurd (none-some x at)
set_as_it_is (y ∷ xs) zero x at = ap (λ z. z ∷ xs) (sym (same_Some y x at))
set_as_it_is (y ∷ xs) (suc k) x at = ap (λ ys. y ∷ ys) (set_as_it_is xs k x at)

-- ---- no other item of a prefix

-- either of two paths is the other
pub either_way : (p q : List ℕ) → is_same_path p q ≡ is_same_path q p
either_way p q =
    iff_same (is_same_path p q) (is_same_path q p)
    (λ t. path_itself q p (sym (same_path p q t)))
    (λ t. path_itself p q (sym (same_path q p t)))

-- where no item has the prefix of this one, none is found
pub none_of : {A : Type 0} (prefix : A → List ℕ) (p q : List ℕ) (xs : List A) → q ≡ p → list_any (λ (a : A). is_same_path p (prefix a)) xs ≡ false
    → find_item (has_it prefix q) xs ≡ None
none_of prefix p q [] is none = refl
none_of {A = A} prefix p q (a ∷ xs) is none =
    let parts = or_parts (is_same_path p (prefix a)) (list_any (λ (b : A). is_same_path p (prefix b)) xs) none in
    let apart : is_same_path (prefix a) q ≡ false = ap (is_same_path (prefix a)) is ∙ either_way (prefix a) p ∙ parts.0 in
    ap (λ (b : Bool). cond b (Some a) (find_item (has_it prefix q) xs)) apart ∙ none_of prefix p q xs is parts.1

-- ---- one more site

module _ {A : Type 0} (prefix : A → List ℕ) where
  numbered_more : (n : ℕ) (xs : List A) (x : A) → numbered n (map prefix (xs ++ x ∷ [])) ≡ numbered n (map prefix xs) ++ (prefix x, n + length xs) ∷ []
  numbered_more n [] x = ap (λ (k : ℕ). (prefix x, k) ∷ []) (omega arith)
  numbered_more n (a ∷ xs) x =
      let next : n + 1 + length xs ≡ n + suc (length xs) = omega arith in
      ap (λ (es : List (List ℕ × ℕ)). (prefix a, n) ∷ es)
      (numbered_more (n + 1) xs x ∙ ap (λ (k : ℕ). numbered (n + 1) (map prefix xs) ++ (prefix x, k) ∷ []) next)

  none_numbered : (p : List ℕ) (n : ℕ) (xs : List A) → find_item (has_it prefix p) xs ≡ None → find path_cmp p (numbered n (map prefix xs)) ≡ None
  none_numbered p n [] none = refl
  none_numbered p n (a ∷ xs) none = go (has_it prefix p a) (same_test prefix p a) none (none_numbered p (n + 1) xs)
    where
      go : (b : Bool) → tied p (prefix a) ≡ b → cond b (Some a) (find_item (has_it prefix p) xs) ≡ None
          → (find_item (has_it prefix p) xs ≡ None → find path_cmp p (numbered (n + 1) (map prefix xs)) ≡ None)
          → cond (tied p (prefix a)) (Some n) (find path_cmp p (numbered (n + 1) (map prefix xs))) ≡ None
      go true t is later = absurd (none-some a (sym is))
      go false t is later = ap (λ (b : Bool). cond b (Some n) (find path_cmp p (numbered (n + 1) (map prefix xs)))) t ∙ later is

  own_more : (xs : List A) (x : A) → have_own_prefixes prefix xs ≡ true → ((a : A) → IsIn a xs → has_it prefix (prefix x) a ≡ false)
      → have_own_prefixes prefix (xs ++ x ∷ []) ≡ true
  own_more [] x own others = refl
  own_more (a ∷ xs) x own others =
      let same : A → Bool = λ b. is_same_path (prefix a) (prefix b) in
      let parts = and_parts (not (list_any same xs)) _ own in
      let none : list_any same (xs ++ x ∷ []) ≡ false =
      list_any-append same xs (x ∷ []) ∙ or_from (list_any same xs) (list_any same (x ∷ [])) (not-true _ parts.0) (or_from (same x) false (others a (inl refl)) refl) in
      and_from (not (list_any same (xs ++ x ∷ []))) _ (not_from_false _ none) (own_more xs x parts.1 (λ b k. others b (inr k)))

-- ---- how many sites

numbered_long : (n : ℕ) (ps : List (List ℕ)) → length (numbered n ps) ≡ length ps
numbered_long n [] = refl
numbered_long n (p ∷ ps) = ap (λ (k : ℕ). suc k) (numbered_long (n + 1) ps)

numbered_own : {A : Type 0} (prefix : A → List ℕ) (n : ℕ) (xs : List A) → have_own_prefixes prefix xs ≡ true → have_own_keys (numbered n (map prefix xs)) ≡ true
numbered_own prefix n [] own = refl
numbered_own {A = A} prefix n (a ∷ xs) own =
    let parts = and_parts (not (list_any (λ (b : A). is_same_path (prefix a) (prefix b)) xs)) _ own in
    let none = none_of prefix (prefix a) (prefix a) xs refl (not-true _ parts.0) in
    more_distinct (prefix a, n) (numbered (n + 1) (map prefix xs)) (none_numbered prefix (prefix a) (n + 1) xs none)
    (numbered_own prefix (n + 1) xs parts.1)

-- the map has as many places as there are sites
pub as_many : (m : FinMap path_cmp ℕ) (sites : List Site) → AreFound m sites → len m ≡ length sites
as_many m sites found =
    let prefixes = map (λ (s : Site). s.prefix) sites in
    ap (λ (n : FinMap path_cmp ℕ). len n) found.of_sites
    ∙ len-map_of (numbered 0 prefixes) (numbered_own (λ (s : Site). s.prefix) 0 sites found.own)
    ∙ numbered_long 0 prefixes ∙ length-map sites (λ (s : Site). s.prefix)

pub added_is_found : (m : FinMap path_cmp ℕ) (sites : List Site) → AreFound m sites → (s : Site) → find_item (λ (t : Site). is_same_path t.prefix s.prefix) sites ≡ None
    → AreFound (insert m s.prefix (length sites)) (sites ++ s ∷ [])
added_is_found m sites found s none =
    let last : 0 + length sites ≡ length sites = omega arith in record {
      of_sites = ap (λ (n : FinMap path_cmp ℕ). insert n s.prefix (length sites)) found.of_sites
          ∙ sym (map_of_push (numbered 0 (map (λ (t : Site). t.prefix) sites)) s.prefix (length sites) (none_numbered (λ (t : Site). t.prefix) s.prefix 0 sites none))
          ∙ sym (ap (λ (es : List (List ℕ × ℕ)). map_of es) (numbered_more (λ (t : Site). t.prefix) 0 sites s
          ∙ ap (λ (k : ℕ). numbered 0 (map (λ (t : Site). t.prefix) sites) ++ (s.prefix, k) ∷ []) last));
      own = own_more (λ (t : Site). t.prefix) sites s found.own (no_none (has_it (λ (t : Site). t.prefix) s.prefix) sites none);
    }
