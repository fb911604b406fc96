-- The keys of a map are those of its entries, so what holds of each key in the list holds of the keys of the map.
use Rattle.std.proofs.Common.{◌≡◌, ℕ, Bool, true, false, List, Option, sym, ap, ◌∙◌}
use Rattle.std.specs.Prelude.{not, is_some}
use Rattle.std.specs.List.{list_all}
use Rattle.std.specs.FinMap.{find, get}
use Rattle.std.specs.FinMap.Entries.{is_some-find}
use Rattle.std.proofs.lemmas.Bool.{false≢true, not-true}
use Rattle.ddt_path.specs.Covers.{covers}
use Rattle.ddt_path.specs.laws.Member.{IsIn, all_of, any_in, in_any, holds_at, list_any-map, some_passes}
use Rattle.ddt_trie.specs.PrefixMap.{path_cmp, IsCovered}
use Rattle.ddt_trie.specs.Entries.{map_of, none_covers}
use Rattle.ddt_trie.specs.laws.Entry.{tied, tied-true, tied_self, get-map_of}

module _ {V : Type 0} where
  pub entry_of : (es : List (List ℕ × V)) (q : List ℕ) → is_some (find path_cmp q es) ≡ true → (e : List ℕ × V) × IsIn e es × (q ≡ e.0)
  entry_of es q found =
      let e = any_in (λ f. tied q f.0) es (sym (list_any-map (tied q) (λ f. f.0) es) ∙ sym (is_some-find path_cmp q es) ∙ found) in
      (e.0, e.1, tied-true q e.0.0 e.2)

  entry_found : (es : List (List ℕ × V)) (e : List ℕ × V) → IsIn e es → is_some (find path_cmp e.0 es) ≡ true
  entry_found es e k =
      is_some-find path_cmp e.0 es ∙ list_any-map (tied e.0) (λ f. f.0) es ∙ in_any (λ f. tied e.0 f.0) es e k (tied_self e.0)

  -- what holds of each key in the list holds of a key that is found, and the other way round
  pub keys_pass : (test : List ℕ → Bool) (es : List (List ℕ × V)) (q : List ℕ) → list_all (λ e. test e.0) es ≡ true → is_some (find path_cmp q es) ≡ true → test q ≡ true
  keys_pass test es q all found =
      let e = entry_of es q found in
      ap test e.2 ∙ holds_at (λ f. test f.0) es e.0 all e.1

  pub found_pass : (test : List ℕ → Bool) (es : List (List ℕ × V)) → ((q : List ℕ) → is_some (find path_cmp q es) ≡ true → test q ≡ true) → list_all (λ e. test e.0) es ≡ true
  found_pass test es h = all_of (λ e. test e.0) es (λ e k. h e.0 (entry_found es e k))

  -- where not each key in the list fails, some key passes
  pub key_passes : (test : List ℕ → Bool) (es : List (List ℕ × V)) → list_all (λ e. not (test e.0)) es ≡ false → (q : List ℕ) × (is_some (get (map_of es) q) ≡ true) × (test q ≡ true)
  key_passes test es h =
      let e = some_passes (λ f. test f.0) es h in
      (e.0.0, ap (λ (o : Option V). is_some o) (get-map_of es e.0.0) ∙ entry_found es e.0 e.1, e.2)

  pub is_found : (es : List (List ℕ × V)) (q : List ℕ) → is_some (get (map_of es) q) ≡ true → is_some (find path_cmp q es) ≡ true
  is_found es q h = ap (λ (o : Option V). is_some o) (sym (get-map_of es q)) ∙ h

  -- where no key in the list covers an identifier, none does
  pub uncovered : (s es : List (List ℕ × V)) (x : List ℕ) (r : Bool) → s ≡ es → r ≡ none_covers s x → r ≡ true → IsCovered (map_of es) x → ⊥
  uncovered s es x r same answer is c =
      let none = ap (λ (l : List (List ℕ × V)). none_covers l x) (sym same) ∙ sym answer ∙ is in
      false≢true (sym (not-true (covers c.0 x) (keys_pass (λ p. not (covers p x)) es c.0 none (is_found es c.0 c.1))) ∙ c.2)
