-- `assign REGISTER XEID`.
use Rattle.std.specs.Prelude.{ℕ, ◌≡◌, List, codes, Option, None, Some, Result, Ok, Err, [], ◌∷◌}
use Rattle.ddt_path.specs.declared.xeid.Xeid.{Xeid}
use Rattle.ddt_path.specs.Path.{xeid_path}
use Rattle.ddt_text.specs.declared.fault.TextFault.{TextFault}
use Rattle.ddt_text.specs.FirstFault.{xeid_in}
use Rattle.ddt_register.specs.declared.register.Register.{Register}
use Rattle.ddt_check.specs.Assignment.{assignment}
use Rattle.ddt_lines.specs.Lines.{ended, outcome_text}
use Rattle.ddt_commands.specs.CommandLine.Call.{Call, value}
use Rattle.ddt_commands.specs.declared.refusal.Refusal.{Refusal}
use Rattle.ddt_commands.specs.declared.refusal.Refusal.TheVariants.{OutOfMemory}
use Rattle.ddt_commands.specs.declared.refusal.bad_word.WordRefusal.{WordRefusal}
use Rattle.ddt_commands.specs.declared.refusal.bad_word.WordRefusal.TheVariants.{Identifier}
use Rattle.ddt_commands.specs.declared.command_line.declaration.Declaration.{Declaration}
use Rattle.ddt_commands.specs.CommandLine.Line.{one, takes}
use Rattle.ddt_commands.specs.Over.{prints_over, whole}
use Rattle.ddt_commands.specs.Ends.{Prints}

-- the refusal of a word that is no identifier
abbrev pub identifier_refusal : Result Xeid TextFault → Option WordRefusal
identifier_refusal (Ok x) = None
identifier_refusal (Err fault) = Some (Identifier fault)

-- the identifier of a call
abbrev pub xeid_of : Call → Result Xeid TextFault
xeid_of call = xeid_in (value (codes "xeid") call)

-- the first bad word of a call with an identifier
abbrev pub bad_xeid : Call → Option WordRefusal
bad_xeid call = identifier_refusal (xeid_of call)

-- the line of what the register assigns to the identifier
abbrev pub IsAssignText : Call → Register → List ℕ → Type 0
IsAssignText call r text =
    (x : Xeid) × (xeid_of call ≡ Ok x) × (text ≡ ended (outcome_text (assignment r (xeid_path x))))

-- of a register it refuses nothing unless memory runs out
abbrev pub RefusesOnlyMemory : Call → Register → Refusal → Type 0
RefusesOnlyMemory call r why = why ≡ OutOfMemory

-- what `assign` takes
abbrev pub assign_takes : Declaration
assign_takes = takes (codes "assign") (one (codes "register") ∷ one (codes "xeid") ∷ [])

-- what `assign` prints of a call
abbrev pub assign_prints : {F : Type 0} → (List ℕ → Option F → Type 0) → (F → Option (List ℕ)) → Call → Prints
assign_prints opens remaining call = prints_over opens remaining bad_xeid (whole IsAssignText) RefusesOnlyMemory call
