-- When a file looks as if its end were missing.
use Rattle.std.specs.Prelude.{◌≡◌, ℕ, ◌-◌, Bool, true, false, ◌==◌, ◌&&◌, not, nat_lt, List, length, get_or, Option, None, Some, IsSome}
use Rattle.std.specs.List.{starts_with, count_by}
use Rattle.std.specs.Option.{option_map_or}
use Rattle.ddt_review.specs.declared.warnings.truncated_file.Truncation.{Truncation}
use Rattle.ddt_review.specs.declared.warnings.truncated_file.Truncation.TheVariants as looks

-- the old file has all bytes of this one at its front, and goes on
abbrev pub is_beginning : List ℕ → List ℕ → Bool
is_beginning old file = nat_lt (length file) (length old) && starts_with ◌==◌ old file

-- an old file, where there is one, begins so with this one
abbrev pub begins : Option (List ℕ) → List ℕ → Bool
begins None file = false
begins (Some old) file = is_beginning old file

-- the last byte is neither a line feed nor a carriage return
abbrev pub has_open_line : List ℕ → Bool
has_open_line file = nat_lt 0 (length file)
    && (not (get_or file (length file - 1) 10 == 10) && not (get_or file (length file - 1) 10 == 13))

-- how many line feeds a file has
abbrev pub line_ends : List ℕ → ℕ
line_ends file = count_by (λ b. b == 10) file

-- What is said of a file beside an old one: that it is the beginning just where it is, and else of its last line, where
-- there is an old one, or that its last line is open just where it is.
abbrev pub IsTruncation : Option (List ℕ) → List ℕ → Option Truncation → Type 0
IsTruncation old file (Some (looks.Beginning lines)) = (begins old file ≡ true)
    × (lines ≡ option_map_or line_ends old 0 - line_ends file)
IsTruncation old file (Some (looks.Shortened line)) = (begins old file ≡ false) × IsSome old
IsTruncation old file (Some looks.OpenLine) = (begins old file ≡ false) × (has_open_line file ≡ true)
IsTruncation old file None = (begins old file ≡ false) × (has_open_line file ≡ false)
