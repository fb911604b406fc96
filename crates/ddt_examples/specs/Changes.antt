-- A message in which some bytes are others.
use Rattle.std.specs.Prelude.{ℕ, List, slice_set}
use Rattle.std.specs.List.{fold}

-- each change in its turn; a place behind the end is none
abbrev pub with_changes : List ℕ → List (ℕ × ℕ) → List ℕ
with_changes message changes = fold (λ bytes change. slice_set bytes change.0 change.1) message changes
