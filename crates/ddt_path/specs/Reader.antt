-- What holds between the bytes that spell a value, by a grammar, and a reading of bytes.
use Rattle.std.specs.Prelude.{ℕ, ◌≡◌, ◌↔◌, List, Result, Ok}
use Rattle.std.specs.Result.{IsErr}
use Rattle.ddt_path.specs.Steps.{IsBytes}

-- every list of numbers fits
abbrev pub IsAny : List ℕ → Type 0
IsAny text = Unit {0}

-- What is spelled is read, and what is read of a list that fits is spelled by it. A list spells one value at most, and
-- only bytes spell; and there is a first fault if and only if nothing is spelled.
pub record AreRead {A E : Type 0} (Fits : List ℕ → Type 0) (Spells : List ℕ → A → Type 0)
    (reading : List ℕ → Result A E) : Type 0 where
  pub read : (text : List ℕ) (a : A) → Spells text a → reading text ≡ Ok a
  pub taken : (text : List ℕ) (a : A) → Fits text → reading text ≡ Ok a → Spells text a
  pub one : (text : List ℕ) (a b : A) → Spells text a → Spells text b → a ≡ b
  pub bytes : (text : List ℕ) (a : A) → Spells text a → IsBytes text
  pub faults : (text : List ℕ) → Fits text → IsErr (reading text) ↔ ((a : A) → Spells text a → ⊥)
