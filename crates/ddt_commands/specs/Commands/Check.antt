-- `check REGISTER`.
use Rattle.std.specs.Prelude.{ℕ, ◌≡◌, List, length, Option, None, [], ◌∷◌, codes}
use Rattle.ddt_register.specs.declared.register.Register.{Register}
use Rattle.ddt_lines.specs.Lines.{counts_text, ended}
use Rattle.ddt_commands.specs.CommandLine.Call.{Call}
use Rattle.ddt_commands.specs.declared.refusal.bad_word.WordRefusal.{WordRefusal}
use Rattle.ddt_commands.specs.declared.command_line.declaration.Declaration.{Declaration}
use Rattle.ddt_commands.specs.CommandLine.Line.{one, takes}
use Rattle.ddt_commands.specs.Over.{prints_over, whole}
use Rattle.ddt_commands.specs.Ends.{Prints}
use Rattle.ddt_commands.specs.Commands.Assign.{RefusesOnlyMemory}

-- the line of how many zones, sites and groups an accepted register has
abbrev pub IsCheckText : Call → Register → List ℕ → Type 0
IsCheckText call r text = text ≡ ended (counts_text (length r.zones) (length r.sites) (length r.groups))

-- no word is bad
abbrev pub no_bad_word : Call → Option WordRefusal
no_bad_word call = None

-- what `check` takes
abbrev pub check_takes : Declaration
check_takes = takes (codes "check") (one (codes "register") ∷ [])

-- what `check` prints of a call
abbrev pub check_prints : {F : Type 0} → (List ℕ → Option F → Type 0) → (F → Option (List ℕ)) → Call → Prints
check_prints opens remaining call = prints_over opens remaining no_bad_word (whole IsCheckText) RefusesOnlyMemory call
