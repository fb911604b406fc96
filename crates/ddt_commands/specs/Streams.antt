-- What a stream has after a refusal.
use Rattle.std.specs.Prelude.{ℕ, List, Option}
use Rattle.std.specs.Io.KnownBytes.{Appends}
use Rattle.ddt_lines.specs.Printing.{AppendsFront}
use Rattle.ddt_commands.specs.declared.refusal.Refusal.{Refusal}
use Rattle.ddt_commands.specs.Refusal.{IsRefusalTold}

-- the refusal's line was appended
abbrev pub PrintsRefusal : Refusal → Option (List ℕ) → Option (List ℕ) → Type 0
PrintsRefusal why old new = (line : List ℕ) × IsRefusalTold why line × Appends old new line

-- a front of that line was appended
abbrev pub PrintsRefusalFront : Refusal → Option (List ℕ) → Option (List ℕ) → Type 0
PrintsRefusalFront why old new = (line : List ℕ) × IsRefusalTold why line × AppendsFront old new line
