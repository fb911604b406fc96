-- The usage: what follows from what the commands take.
use Rattle.std.specs.Prelude.{ℕ, ◌-◌, if◌then◌else◌, List, [], ◌∷◌, ◌++◌, codes, length, map, take}
use Rattle.std.specs.List.{flat_map}
use Rattle.std.specs.Str.{bytes_eq}
use Rattle.ddt_commands.specs.declared.command_line.declaration.Argument.{Argument}
use Rattle.ddt_commands.specs.declared.command_line.declaration.Argument.TheVariants.{One, Several, Any, Setting}
use Rattle.ddt_commands.specs.declared.command_line.declaration.Declaration.{Declaration}
use Rattle.ddt_lines.specs.Lines.{ended}

-- a name, which has small letters alone, in capital letters
abbrev pub capitals : List ℕ → List ℕ
capitals name = map (λ letter. letter - 32) name

-- what an option's value is: an address behind `--me`, else a number
abbrev pub value_of : List ℕ → List ℕ
value_of name = if bytes_eq name (codes "me") then codes "ADDRESS" else codes "N"

-- an argument or option. The name of one that takes any number of words is a plural; each of them is shown as one.
abbrev pub shown : Argument → List ℕ
shown (One name) = codes " " ++ capitals name.now
shown (Several name) = codes " " ++ capitals name.now ++ codes "..."
shown (Any name) = codes " [" ++ capitals (take (length name.now - 1) name.now) ++ codes "...]"
shown (Setting name) = codes " [--" ++ name.now ++ codes " " ++ value_of name.now ++ codes "]"

-- the line of a command behind its margin
abbrev pub usage_line : List ℕ → Declaration → List ℕ
usage_line margin d = ended (margin ++ codes "ddt " ++ d.name.now ++ flat_map shown d.arguments.now)

-- a line for each command
abbrev pub usage_of : List Declaration → List ℕ
usage_of [] = []
usage_of (d ∷ ds) = usage_line (codes "usage: ") d ++ flat_map (usage_line (codes "       ")) ds
