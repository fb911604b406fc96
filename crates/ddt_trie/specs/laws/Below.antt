-- The keys of a finite map that are strictly below a prefix, and the free prefixes among them.
use Rattle.std.proofs.Common.{◌≡◌, ℕ, Bool, true, false, cond, List, [], ◌∷◌, take, Option, None, Some, refl, sym, ap, inl, inr, ◌∙◌}
use Rattle.std.specs.Prelude.{not, ◌&&◌, filter, is_some}
use Rattle.std.specs.List.{list_all, list_any}
use Rattle.std.specs.FinMap.{FinMap, empty, get, get-empty, insert, keys, contains_key, contains_key-keys}
use Rattle.std.proofs.lemmas.Bool.{and_parts, false≢true, not_from_false}
use Rattle.std.proofs.lemmas.Option.{none-some}
use Rattle.ddt_path.specs.Covers.{covers, overlaps, is_same_path, is_strictly_below}
use Rattle.ddt_path.specs.Free.{overlaps_none, free}
use Rattle.ddt_path.specs.laws.Cover.{overlaps-take}
use Rattle.ddt_path.specs.laws.Hole.{free_agree, free_whole}
use Rattle.ddt_trie.specs.PrefixMap.{path_cmp, IsCoveredBelow, keys_below}
use Rattle.ddt_trie.specs.Entries.{map_of}
use Rattle.ddt_trie.specs.laws.Pass.{keys_pass, key_passes, is_found}
use Rattle.ddt_trie.specs.laws.Key.{all_from_members, all_keys, any_same, member_passes, same_members_all}
use Rattle.ddt_trie.specs.laws.Map.{found_after_insert}

-- a test that each filtered path fails is one that no path passes together with the filter
pub all_filtered : (test fails : List ℕ → Bool) (ks : List (List ℕ))
    → list_all (λ k. not (fails k)) (filter test ks) ≡ list_all (λ k. not (test k && fails k)) ks
all_filtered test fails [] = refl
all_filtered test fails (k ∷ ks) =
    elim (test k) as
    (λ b. list_all (λ k. not (fails k)) (cond b (k ∷ filter test ks) (filter test ks))
    ≡ (not (b && fails k) && list_all (λ k. not (test k && fails k)) ks)) [
      | true ↦ ap (λ (r : Bool). not (fails k) && r) (all_filtered test fails ks)
      | false ↦ all_filtered test fails ks
    ]

-- where both hold, not both fail
never_both : (a b : Bool) → not (a && b) ≡ true → a ≡ true → b ≡ true → ⊥
never_both true true n p q = false≢true n
never_both true false n p q = false≢true q
never_both false b n p q = false≢true p

module _ {V : Type 0} (m : FinMap path_cmp V) (from q : List ℕ) where
  -- the prefix overlaps no key strictly below, by each of all the keys
  pub overlaps_none-below : overlaps_none (keys_below m from) q
      ≡ list_all (λ k. not (is_strictly_below k from && overlaps k q)) (keys m)
  overlaps_none-below = all_filtered (λ k. is_strictly_below k from) (λ k. overlaps k q) (keys m)

  pub below_apart : overlaps_none (keys_below m from) q ≡ true → (k : List ℕ) → contains_key m k ≡ true
      → is_strictly_below k from ≡ true → overlaps k q ≡ true → ⊥
  below_apart none k is below meets =
      never_both (is_strictly_below k from) (overlaps k q)
      (member_passes (λ k. not (is_strictly_below k from && overlaps k q)) (keys m) k (sym overlaps_none-below ∙ none)
      (sym (contains_key-keys m k) ∙ is)) below meets

module _ {V : Type 0} where
  pub tested_below : (s es : List (List ℕ × V)) (from q : List ℕ) (r b : Bool) → s ≡ es
      → r ≡ list_all (λ e. not (is_strictly_below e.0 from && overlaps e.0 q)) s → r ≡ b
      → overlaps_none (keys_below (map_of es) from) q ≡ b
  tested_below s es from q r b same answer is =
      overlaps_none-below (map_of es) from q ∙ all_keys (λ k. not (is_strictly_below k from && overlaps k q)) es
      ∙ ap (list_all (λ (e : List ℕ × V). not (is_strictly_below e.0 from && overlaps e.0 q))) (sym same) ∙ sym answer
      ∙ is

  -- where a key strictly below covers x, no part of x is free
  pub no_part_below : (es : List (List ℕ × V)) (from x : List ℕ) (n : ℕ)
      → overlaps_none (keys_below (map_of es) from) (take n x) ≡ true → IsCoveredBelow (map_of es) from x → ⊥
  no_part_below es from x n none c =
      below_apart (map_of es) from (take n x) none c.0 c.1 c.2 (overlaps-take c.0 x n c.3)

  pub some_covers_below : (s es : List (List ℕ × V)) (from x : List ℕ) (r : Bool) → s ≡ es
      → r ≡ list_all (λ e. not (is_strictly_below e.0 from && covers e.0 x)) s → r ≡ false
      → IsCoveredBelow (map_of es) from x
  some_covers_below s es from x r same answer is =
      let f = key_passes (λ k. is_strictly_below k from && covers k x) es
      (ap (list_all (λ (e : List ℕ × V). not (is_strictly_below e.0 from && covers e.0 x))) (sym same) ∙ sym answer
      ∙ is) in
      let parts = and_parts (is_strictly_below f.0 from) (covers f.0 x) f.2 in
      (f.0, f.1, parts.0, parts.1)

  pub uncovered_below : (s es : List (List ℕ × V)) (from x : List ℕ) (r : Bool) → s ≡ es
      → r ≡ list_all (λ e. not (is_strictly_below e.0 from && covers e.0 x)) s → r ≡ true
      → IsCoveredBelow (map_of es) from x → ⊥
  uncovered_below s es from x r same answer is c =
      never_both (is_strictly_below c.0 from) (covers c.0 x)
      (keys_pass (λ k. not (is_strictly_below k from && covers k x)) es c.0
      (ap (list_all (λ (e : List ℕ × V). not (is_strictly_below e.0 from && covers e.0 x))) (sym same) ∙ sym answer
      ∙ is) (is_found es c.0 c.1))
      c.2 c.3

-- among any list with the same members the same is free
pub members_free_below : {V : Type 0} (m : FinMap path_cmp V) (members : List (List ℕ))
    → ((p : List ℕ) → contains_key m p ≡ list_any (is_same_path p) members) → (from x : List ℕ)
    → free from (keys_below m from) x ≡ free from (filter (λ k. is_strictly_below k from) members) x
members_free_below m members same from x =
    let below = λ (k : List ℕ). is_strictly_below k from in
    free_agree from (keys_below m from) (filter below members) x (λ q.
    all_filtered below (λ k. overlaps k q) (keys m)
    ∙ same_members_all (λ k. not (below k && overlaps k q)) (keys m) members (λ p. sym (contains_key-keys m p) ∙ same p
    ∙ any_same p members)
    ∙ sym (all_filtered below (λ k. overlaps k q) members))

-- a lone key is free below
pub free_below_alone : {V : Type 0} (m n : FinMap path_cmp V) (p x : List ℕ) (v : V) → n ≡ empty → m ≡ insert n p v
    → covers p x ≡ true → free p (keys_below m p) x ≡ Some p
free_below_alone m n p x v none is inside =
    let fails = λ (k : List ℕ). is_strictly_below k p && overlaps k p in
    free_whole p (keys_below m p) x inside
    (overlaps_none-below m p p
    ∙ all_from_members (λ k. not (fails k)) (keys m) (λ k member.
    not_from_false (fails k) (ap (λ (q : List ℕ). fails q) (alone k (get m k) refl (contains_key-keys m k ∙ member))
    ∙ not_below_itself (covers p p) (overlaps p p))))
  where
    alone : (k : List ℕ) (o : Option _) → get m k ≡ o → is_some o ≡ true → k ≡ p
    alone k None found key = absurd (false≢true key)
    alone k (Some w) found key =
        elim (found_after_insert n p v k w (ap (λ (l : FinMap path_cmp _). get l k) (sym is) ∙ found)) [
          | inl a ↦ a.0
          | inr a ↦ absurd
              (none-some w (sym (get-empty path_cmp k) ∙ ap (λ (l : FinMap path_cmp _). get l k) (sym none) ∙ a))
        ]

    not_below_itself : (a b : Bool) → ((a && not a) && b) ≡ false
    not_below_itself true b = refl
    not_below_itself false b = refl
