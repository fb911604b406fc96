-- What the maps of a server answer, in terms of the lists of the configuration.
use Rattle.std.proofs.Common.{◌≡◌, ℕ, zero, suc, ◌+◌, ◌<◌, ◌≤◌, List, [], ◌∷◌, length, get_or, drop, map, Some, None, Option, refl, sym, ap, subst, ◌∙◌, arith, inl, inr}
use Rattle.std.specs.Prelude.{is_some, slice_get}
use Rattle.std.specs.Option.{option_map}
use Rattle.std.specs.List.{list_any, enumerate_from}
use Rattle.std.specs.Cmp.Lexicographic.{nat_list_cmp_total}
use Rattle.std.specs.FinMap.{FinMap, from_entries, get, contains_key, keys, len, insert, len-empty}
use Rattle.std.specs.FinMap.Entries.{is_some-find}
use Rattle.std.proofs.lemmas.List.{length-map}
use Rattle.std.proofs.lemmas.Option.{none-some, same_Some, slice_get-map, slice_get_read, slice_get_within}
use Rattle.ddt_path.specs.laws.MapSize.{len_inserted}
use Rattle.ddt_path.specs.declared.matches.Preference.TheVariants.{Longest}
use Rattle.ddt_path.specs.Covers.{is_same_path}
use Rattle.ddt_path.specs.Free.{free}
use Rattle.ddt_path.specs.Matching.{longest_match}
use Rattle.ddt_path.specs.laws.Matching.{best_member, best_match-map}
use Rattle.ddt_path.specs.laws.Member.{IsIn}
use Rattle.ddt_trie.specs.PrefixMap.{path_cmp, keys_below, IsCovered, IsLongest}
use Rattle.ddt_trie.specs.laws.Below.{members_free_below}
use Rattle.ddt_trie.specs.laws.Entry.{tied, get-map_of}
use Rattle.ddt_trie.specs.laws.Key.{any_same, members_free}
use Rattle.ddt_trie.specs.laws.Match.{longest_of_entries, no_longest_of_entries}
use Rattle.ddt_config.specs.Answer.{strictly_below}
use Rattle.ddt_node.specs.Places.{numbered, places}

-- ---- the longest key and the longest match

-- items, each with its place; the numbered prefixes and the items are made of these
module _ {A : Type 0} (prefix : A → List ℕ) where
  abbrev key : ℕ × A → List ℕ
  key e = prefix e.1

  abbrev entry : ℕ × A → List ℕ × ℕ
  entry e = (prefix e.1, e.0)

  made_entries : (n : ℕ) (items : List A) → numbered n (map prefix items) ≡ map entry (enumerate_from n items)
  made_entries n [] = refl
  made_entries n (a ∷ items) = ap (λ (es : List (List ℕ × ℕ)). (prefix a, n) ∷ es) (made_entries (n + 1) items)

  made_items : (n : ℕ) (items : List A) → map (λ (e : ℕ × A). e.1) (enumerate_from n items) ≡ items
  made_items n [] = refl
  made_items n (a ∷ items) = ap (λ (others : List A). a ∷ others) (made_items (n + 1) items)

  at_place : (n : ℕ) (items : List A) (e : ℕ × A) → IsIn e (enumerate_from n items) → (k : ℕ) × (e.0 ≡ n + k) × (slice_get items k ≡ Some e.1)
  at_place n [] e k = absurd k
  at_place n (a ∷ items) e (inl same) = (0, omega (arith, ap (λ (f : ℕ × A). f.0) same), ap (λ (f : ℕ × A). Some f.1) (sym same))
  at_place n (a ∷ items) e (inr later) =
      let k = at_place (n + 1) items e later in
      (suc k.0, omega (arith, k.1), k.2)

  module _ (x : List ℕ) (items : List A) where
    abbrev matched : Option (ℕ × A)
    matched = longest_match key (enumerate_from 0 items) x

    match_of_entries : longest_match (λ (e : List ℕ × ℕ). e.0) (numbered 0 (map prefix items)) x ≡ option_map entry matched
    match_of_entries =
        ap (λ (es : List (List ℕ × ℕ)). longest_match (λ (e : List ℕ × ℕ). e.0) es x) (made_entries 0 items)
        ∙ best_match-map Longest entry (λ (e : List ℕ × ℕ). e.0) (enumerate_from 0 items) x

    match_of_items : longest_match prefix items x ≡ option_map (λ e. e.1) matched
    match_of_items =
        ap (λ (others : List A). longest_match prefix others x) (sym (made_items 0 items))
        ∙ best_match-map Longest (λ (e : ℕ × A). e.1) prefix (enumerate_from 0 items) x

    module _ (m : FinMap path_cmp ℕ) (is : m ≡ places (map prefix items)) where
      -- the longest key is the prefix of the longest match, at the place of its first item
      pub longest_item : (p : List ℕ) (v : ℕ) → IsLongest m x p v → (a : A) × (slice_get items v ≡ Some a) × (longest_match prefix items x ≡ Some a) × (p ≡ prefix a)
      longest_item p v l = go matched refl
        where
          told : option_map entry matched ≡ Some (p, v)
          told = sym match_of_entries ∙ longest_of_entries x (numbered 0 (map prefix items)) p v (subst (λ (n : FinMap path_cmp ℕ). IsLongest n x p v) is l)

          go : (o : Option (ℕ × A)) → matched ≡ o → (a : A) × (slice_get items v ≡ Some a) × (longest_match prefix items x ≡ Some a) × (p ≡ prefix a)
          go None found = absurd (none-some (p, v) (sym (ap (option_map entry) found) ∙ told))
          go (Some e) found =
              let same : entry e ≡ (p, v) = same_Some (entry e) (p, v) (sym (ap (option_map entry) found) ∙ told) in
              let k = at_place 0 items e (best_member Longest key x (enumerate_from 0 items) e found).0 in
              let at : v ≡ k.0 = omega (arith, ap (λ (q : List ℕ × ℕ). q.1) same, k.1) in (
                e.1,
                ap (slice_get items) at ∙ k.2,
                match_of_items ∙ ap (option_map (λ (f : ℕ × A). f.1)) found,
                sym (ap (λ (q : List ℕ × ℕ). q.0) same),
              )

      pub longest_place : (p : List ℕ) (v : ℕ) → IsLongest m x p v → (v < length items) × (longest_match prefix items x ≡ slice_get items v)
      longest_place p v l = let a = longest_item p v l in (slice_get_within items v a.0 a.1, a.2 ∙ sym a.1)

      pub no_longest_place : (IsCovered m x → ⊥) → longest_match prefix items x ≡ None
      no_longest_place none = match_of_items ∙ go matched (sym match_of_entries ∙ no_longest_of_entries x (numbered 0 (map prefix items)) (subst (λ (n : FinMap path_cmp ℕ). IsCovered n x → ⊥) is none))
        where
          go : (o : Option (ℕ × A)) → option_map entry o ≡ None → option_map (λ e. e.1) o ≡ None
          go None e = refl
          go (Some e) is' = absurd (none-some (entry e) (sym is'))

-- ---- what is free

keys_numbered : (n : ℕ) (ps : List (List ℕ)) → map (λ (e : List ℕ × ℕ). e.0) (numbered n ps) ≡ ps
keys_numbered n [] = refl
keys_numbered n (p ∷ ps) = ap (λ (qs : List (List ℕ)). p ∷ qs) (keys_numbered (n + 1) ps)

in_places : (m : FinMap path_cmp ℕ) (ps : List (List ℕ)) → m ≡ places ps → (p : List ℕ) → contains_key m p ≡ list_any (is_same_path p) ps
in_places m ps is p =
    ap (λ (n : FinMap path_cmp ℕ). is_some (get n p)) is ∙ ap (λ (o : Option ℕ). is_some o) (get-map_of (numbered 0 ps) p)
    ∙ is_some-find path_cmp p (numbered 0 ps) ∙ ap (list_any (tied p)) (keys_numbered 0 ps) ∙ sym (any_same p ps)

pub free_of_places : (m : FinMap path_cmp ℕ) (ps : List (List ℕ)) → m ≡ places ps → (authority x : List ℕ) → free authority (keys m) x ≡ free authority ps x
free_of_places m ps is authority x = members_free m ps (in_places m ps is) authority x

-- the same below a prefix
pub free_below_of_places : (m : FinMap path_cmp ℕ) (ps : List (List ℕ)) → m ≡ places ps → (site x : List ℕ) → free site (keys_below m site) x ≡ free site (strictly_below site ps) x
free_below_of_places m ps is site x = members_free_below m ps (in_places m ps is) site x

-- ---- the maps as they are built, from the last item to the first

module _ {A : Type 0} (prefix : A → List ℕ) where
  abbrev pub places_from : List A → ℕ → FinMap path_cmp ℕ
  places_from items n = from_entries {R = path_cmp} (numbered n (map prefix (drop n items)))

len_numbered : (n : ℕ) (ps : List (List ℕ)) → len (from_entries {R = path_cmp} (numbered n ps)) ≤ length ps
len_numbered n [] = omega (arith, len-empty path_cmp ℕ)
len_numbered n (p ∷ ps) =
    let m = from_entries {R = path_cmp} (numbered (n + 1) ps) in
    let k : len (insert m p n) ≤ len m + 1 = len_inserted nat_list_cmp_total m p n in
    omega (arith, k, len_numbered (n + 1) ps)

pub len-places_from : {A : Type 0} (prefix : A → List ℕ) (items : List A) (n : ℕ) → len (places_from prefix items n) ≤ length items
len-places_from prefix items n =
    let a = len_numbered n (map prefix (drop n items)) in
    let b = length-map (drop n items) prefix in
    let c = length_rest n items in
    omega arith
  where
    length_rest : {A : Type 0} (n : ℕ) (items : List A) → length (drop n items) ≤ length items
    length_rest zero items = omega arith
    length_rest (suc n) [] = omega arith
    length_rest (suc n) (a ∷ items) = let h = length_rest n items in omega arith

-- ---- the item at the place that was found

-- two lists that are mapped to one hold the same at each place
pub same_at : {A B C : Type 0} (f : A → C) (g : B → C) (xs : List A) (ys : List B) (i : ℕ) (a : A) (b : B) → map f xs ≡ map g ys → i < length ys → a ≡ get_or xs i a → b ≡ get_or ys i b → f a ≡ g b
same_at f g xs ys i a b same lt read_a read_b =
    let n : length ys ≡ length xs = sym (length-map ys g) ∙ ap (λ (l : List _). length l) (sym same) ∙ length-map xs f in
    let left = sym (ap (option_map f) (slice_get_read xs (length ys) i a n lt read_a)) in
    let right = ap (option_map g) (slice_get_read ys (length ys) i b refl lt read_b) in
    same_Some (f a) (g b) (left ∙ sym (slice_get-map f xs i) ∙ ap (λ (l : List _). slice_get l i) same ∙ slice_get-map g ys i ∙ right)

pub found_at : {A : Type 0} (prefix : A → List ℕ) (items : List A) (x : List ℕ) (i : ℕ) (a : A) → longest_match prefix items x ≡ slice_get items i → i < length items → a ≡ get_or items i a → longest_match prefix items x ≡ Some a
found_at prefix items x i a is lt read = is ∙ slice_get_read items (length items) i a refl lt read
