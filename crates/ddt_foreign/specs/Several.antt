-- Things one after the other, so many of them, each read by one step, which says what follows it.
use Rattle.std.specs.Prelude.{ℕ, zero, suc, ◌≡◌, List, [], ◌∷◌, ◌++◌, Result, Ok, Err}
use Rattle.ddt_path.specs.Steps.{◌>>=◌}

-- so many things from the front, and the bytes after them
unfoldable pub several_at : {A E : Type 0} → (List ℕ → Result (A × List ℕ) E) → ℕ → List ℕ
    → Result (List A × List ℕ) E
several_at step zero bytes = Ok ([], bytes)
several_at step (suc n) bytes = do
  first ← step bytes
  others ← several_at step n first.1
  Ok (first.0 ∷ others.0, others.1)

-- these bytes come after so many things
abbrev pub ComesAfter : {A E : Type 0} → (List ℕ → Result (A × List ℕ) E) → ℕ → List ℕ → List ℕ
    → Type 0
ComesAfter {A = A} step n bytes rest = (things : List A) × (several_at step n bytes ≡ Ok (things, rest))

-- the things that were read
abbrev pub things_of : {A E : Type 0} → Result (List A × List ℕ) E → List A
things_of (Ok x) = x.0
things_of (Err e) = []

-- the things of bytes that have so many
abbrev pub several_in : {A E : Type 0} → (List ℕ → Result (A × List ℕ) E) → ℕ → List ℕ → List A
several_in step n bytes = things_of (several_at step n bytes)

-- these bytes spell things, one after the other, each as this says
abbrev pub SpellsSeveral : {A : Type 0} → (List ℕ → A → Type 0) → List ℕ → List A → Type 0
SpellsSeveral Spells bytes [] = bytes ≡ []
SpellsSeveral Spells bytes (a ∷ others) = (front : List ℕ) × (rest : List ℕ) × Spells front a
    × SpellsSeveral Spells rest others × (bytes ≡ front ++ rest)
