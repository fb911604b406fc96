-- A script: which bytes spell which steps of a schedule, a line for each.
use Rattle.std.specs.Prelude.{ℕ, ◌+◌, ◌^◌, ◌<◌, ◌≡◌, ◌==◌, not, List, [], ◌∷◌, ◌++◌, length, codes, decimal}
use Rattle.std.specs.List.{filter, slice_split}
use Rattle.ddt_text.specs.Grammar.{SpellsXeid}
use Rattle.ddt_sim.specs.declared.schedule.Step.{Step}
use Rattle.ddt_sim.specs.declared.schedule.Step.TheVariants.{Ask, Deliver, Pass, Tick, Replace}

-- the lines of a text: what stands between line feeds, before the first and behind the last, and isn't empty
abbrev pub lines_in : List ℕ → List (List ℕ)
lines_in text = filter (λ line. not (length line == 0)) (slice_split (λ b. b == 10) text)

-- `ask XEID`, `deliver K`, `wait MS`, `tick`, `replace K`; `decimal n` has no leading zero
abbrev pub SpellsStep : List ℕ → Step → Type 0
SpellsStep line (Ask x) = (text : List ℕ) × (line ≡ codes "ask " ++ text) × SpellsXeid text x
SpellsStep line (Deliver number) = (line ≡ codes "deliver " ++ decimal number) × (number < 2 ^ 32)
SpellsStep line (Pass millis) = (line ≡ codes "wait " ++ decimal millis) × (millis < 2 ^ 32)
SpellsStep line Tick = line ≡ codes "tick"
SpellsStep line (Replace number) = (line ≡ codes "replace " ++ decimal number) × (number < 2 ^ 32)

-- these lines spell these steps, each line its own
abbrev pub SpellSteps : List (List ℕ) → List Step → Type 0
SpellSteps [] [] = Unit {0}
SpellSteps [] (step ∷ steps) = ⊥
SpellSteps (line ∷ lines) [] = ⊥
SpellSteps (line ∷ lines) (step ∷ steps) = SpellsStep line step × SpellSteps lines steps

-- the bytes are a script of these steps
abbrev pub SpellsScript : List ℕ → List Step → Type 0
SpellsScript text steps = SpellSteps (lines_in text) steps

-- the line of this number, from 1, is the first that spells no step
pub record IsRefusedAt (text : List ℕ) (number : ℕ) : Type 0 where
  pub front : List (List ℕ)
  pub line : List ℕ
  pub back : List (List ℕ)
  pub steps : List Step
  pub lines_are : lines_in text ≡ front ++ line ∷ back
  pub before : SpellSteps front steps
  pub here : (step : Step) → ¬ (SpellsStep line step)
  pub counted : number ≡ length front + 1

-- Bytes spell one list of steps at most. Those that spell one have no such line, and no bytes have two.
pub record ScriptsAreClear : Type 0 where
  pub one : (text : List ℕ) (a b : List Step) → SpellsScript text a → SpellsScript text b → a ≡ b
  pub apart : (text : List ℕ) (steps : List Step) (number : ℕ) → SpellsScript text steps
      → IsRefusedAt text number → ⊥
  pub first : (text : List ℕ) (m n : ℕ) → IsRefusedAt text m → IsRefusedAt text n → m ≡ n
