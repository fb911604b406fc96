-- Hexadecimal text whose fields stand apart.
use Rattle.std.specs.Prelude.{ℕ, ◌==◌, not, List}
use Rattle.std.specs.List.{filter}

-- all that is no blank
abbrev pub digits_in : List ℕ → List ℕ
digits_in fields = filter (λ byte. not (byte == 32)) fields
