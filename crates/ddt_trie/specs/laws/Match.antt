-- The longest key of a map is the longest match in the list of its entries.
use Rattle.std.proofs.Common.{◌≡◌, ℕ, ◌≤◌, Bool, true, false, cond, List, [], ◌∷◌, length, Some, None, Option, refl, sym, ap, ◌∙◌, arith}
use Rattle.std.specs.Prelude.{is_some, find as find_item}
use Rattle.std.specs.Option.{option_map}
use Rattle.std.specs.FinMap.{find}
use Rattle.std.specs.Cmp.Lexicographic.{texts_ties}
use Rattle.ddt_path.specs.declared.matches.Preference.TheVariants.{Longest}
use Rattle.ddt_path.specs.Covers.{covers, is_same_path}
use Rattle.ddt_path.specs.Matching.{longest_match}
use Rattle.ddt_path.specs.laws.Matching.{best_member, best_first, best_unbeaten, best_there}
use Rattle.ddt_trie.specs.PrefixMap.{path_cmp, IsCovered, IsLongest}
use Rattle.ddt_trie.specs.Entries.{map_of}
use Rattle.ddt_trie.specs.laws.Entry.{get-map_of}
use Rattle.ddt_trie.specs.laws.Pass.{entry_of, is_found}
use Rattle.ddt_trie.specs.laws.Map.{IsLongest-unique}

module _ {V : Type 0} (x : List ℕ) where
  abbrev key : List ℕ × V → List ℕ
  key e = e.0

  abbrev matched : List (List ℕ × V) → Option (List ℕ × V)
  matched es = longest_match key es x

  -- the value of a key is that of its first entry
  first_entry : (p : List ℕ) (es : List (List ℕ × V)) → find path_cmp p es ≡ option_map (λ e. e.1) (find_item (λ e. is_same_path p e.0) es)
  first_entry p [] = refl
  first_entry p (e ∷ es) =
      ap (λ (b : Bool). cond b (Some e.1) (find path_cmp p es)) (sym (texts_ties p e.0))
      ∙ ap (cond (is_same_path p e.0) (Some e.1)) (first_entry p es)
      ∙ either (is_same_path p e.0) (find_item (λ f. is_same_path p f.0) es)
    where
      either : (b : Bool) (o : Option (List ℕ × V)) → cond b (Some e.1) (option_map (λ f. f.1) o) ≡ option_map (λ f. f.1) (cond b (Some e) o)
      either true o = refl
      either false o = refl

  -- the match of a list is a longest key, and where there is none no key covers x
  pub match_is_longest : (es : List (List ℕ × V)) (e : List ℕ × V) → matched es ≡ Some e → IsLongest (map_of es) x e.0 e.1
  match_is_longest es e is =
      record {
        value = get-map_of es e.0 ∙ first_entry e.0 es ∙ ap (option_map (λ (f : List ℕ × V). f.1)) (best_first Longest key x es e is);
        covers_it = (best_member Longest key x es e is).1;
        longest = λ q found c.
            let f = entry_of es q (is_found es q found) in
            let le : length f.0.0 ≤ length e.0 = best_unbeaten Longest key x es e f.0 is f.1 (ap (λ (p : List ℕ). covers p x) (sym f.2) ∙ c) in
            let same : length q ≡ length f.0.0 = ap (λ (p : List ℕ). length p) f.2 in
            omega arith;
      }

  pub no_match_is_uncovered : (es : List (List ℕ × V)) → matched es ≡ None → IsCovered (map_of es) x → ⊥
  no_match_is_uncovered es is c =
      let f = entry_of es c.0 (is_found es c.0 c.1) in
      best_there Longest key x es f.0 is f.1 (ap (λ (p : List ℕ). covers p x) (sym f.2) ∙ c.2)

  -- an answer to the question of other words
  pub asked : (s es : List (List ℕ × V)) (y : List ℕ) (r o : Option (List ℕ × V)) → s ≡ es → y ≡ x → r ≡ longest_match key s y → r ≡ o → matched es ≡ o
  asked s es y r o same at answer is = (λ i. longest_match key (sym same i) (sym at i)) ∙ sym answer ∙ is

  -- so a longest key is the match, and where no key covers x there is none
  pub longest_of_entries : (es : List (List ℕ × V)) (p : List ℕ) (v : V) → IsLongest (map_of es) x p v → ◌≡◌ {A = Option (List ℕ × V)} (matched es) (Some (p, v))
  longest_of_entries es p v l = go (matched es) refl
    where
      go : (o : Option (List ℕ × V)) → matched es ≡ o → ◌≡◌ {A = Option (List ℕ × V)} o (Some (p, v))
      go None is = absurd (no_match_is_uncovered es is (p, ap (λ (o : Option V). is_some o) l.value, l.covers_it))
      go (Some e) is =
          let same = IsLongest-unique (map_of es) x e.0 p e.1 v (match_is_longest es e is) l in
          let some : List ℕ → V → Option (List ℕ × V) = λ q w. Some (q, w) in
          ap (λ (q : List ℕ). some q e.1) same.0 ∙ ap (some p) same.1

  pub no_longest_of_entries : (es : List (List ℕ × V)) → (IsCovered (map_of es) x → ⊥) → matched es ≡ None
  no_longest_of_entries es none = go (matched es) refl
    where
      go : (o : Option (List ℕ × V)) → matched es ≡ o → o ≡ None
      go None is = refl
      go (Some e) is =
          let l = match_is_longest es e is in
          absurd (none (e.0, ap (λ (o : Option V). is_some o) l.value, l.covers_it))
