-- What a filter by a closure leaves of entries whose keys are distinct.
use Rattle.std.proofs.Common.{◌≡◌, ℕ, Bool, true, false, List, [], ◌∷◌, length, refl, arith}
use Rattle.std.specs.List.{items_where_true}
use Rattle.std.specs.List.Retain.{IsFiltered, ReturnsInTurn}
use Rattle.std.specs.FinMap.{find}
use Rattle.ddt_trie.specs.PrefixMap.{path_cmp, IsKept, IsRetained}
use Rattle.ddt_trie.specs.Entries.{have_own_keys, map_of}
use Rattle.ddt_trie.specs.laws.Entry.{tied-true, get-map_of, rest_distinct, absent_later}

-- the closure answers by the value, and stays what it is
abbrev pub Says : {V F : Type 0} → (F → List ℕ × V → Bool → F → Type 0) → (V → Bool → Type 0) → F → Type 0
Says {V} {F} R answers f = (e : List ℕ × V) (b : Bool) (f' : F) → R f e b f' → answers e.1 b × (f' ≡ f)

module _ {V : Type 0} (answers : V → Bool → Type 0) where
  -- of these entries those are left
  abbrev Left : List (List ℕ × V) → List (List ℕ × V) → Type 0
  Left es ys = ((k : List ℕ) → IsKept answers (find path_cmp k es) (find path_cmp k ys)) × (have_own_keys ys ≡ true)

  stays : (e : List ℕ × V) (es ys : List (List ℕ × V)) → have_own_keys (e ∷ es) ≡ true → answers e.1 true → Left es ys
      → Left (e ∷ es) (e ∷ ys)
  stays e es ys d a rest =
      let none = absent_later e es d in (λ k. let r = rest.0 k in grind arith, let r = rest.0 e.0 in grind arith)

  goes : (e : List ℕ × V) (es ys : List (List ℕ × V)) → have_own_keys (e ∷ es) ≡ true → answers e.1 false → Left es ys
      → Left (e ∷ es) ys
  goes e es ys d a rest =
      let none = absent_later e es d in
      (λ k. let r = rest.0 k in let same = tied-true k e.0 in grind arith, rest.1)

  kept : {F : Type 0} (R : F → List ℕ × V → Bool → F → Type 0) {f : F} → Says R answers f → (bs : List Bool)
      (es : List (List ℕ × V)) (q : F) → ReturnsInTurn R f bs es q → length bs ≡ length es → have_own_keys es ≡ true
      → Left es (items_where_true bs es)
  kept R each [] [] q turns n d = (λ k. refl, refl)
  kept R each [] (e ∷ es) q turns n d = absurd (omega arith)
  kept R each (b ∷ bs) [] q turns n d = absurd (omega arith)
  kept R each (true ∷ bs) (e ∷ es) q turns n d =
      let told = each e true turns.0 turns.1 in
      stays e es _ d told.0 (kept R each bs es q (rw told.1 at turns.2) (omega arith) (rest_distinct e es d))
  kept R each (false ∷ bs) (e ∷ es) q turns n d =
      let told = each e false turns.0 turns.1 in
      goes e es _ d told.0 (kept R each bs es q (rw told.1 at turns.2) (omega arith) (rest_distinct e es d))

  pub retained : {F : Type 0} (R : F → List ℕ × V → Bool → F → Type 0) {f : F} {old new : List (List ℕ × V)}
      → have_own_keys old ≡ true → IsFiltered R f old new → Says R answers f
      → IsRetained answers (map_of old) (map_of new) × (have_own_keys new ≡ true)
  retained R {old = old} {new} d h each =
      let k = kept R each h.0 old h.1 h.3 h.2 d in
      (record { at = λ q. rw (get-map_of old q, get-map_of new q, h.4) (k.0 q) }, rw h.4 k.1)
