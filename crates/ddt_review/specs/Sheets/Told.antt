-- The lines of a register's file.
use Rattle.std.specs.Prelude.{ℕ, ◌<◌, ◌≡◌, ◌==◌, if◌then◌else◌, List, ◌++◌, map, length, codes, decimal, Result, Ok, Err}
use Rattle.std.specs.List.{flat_map}
use Rattle.std.specs.String.{string_bytes}
use Rattle.std.specs.declared.alloc.AllocError.{AllocError}
use Rattle.std.specs.Global.{Vec}
use Rattle.ddt_register.specs.declared.register.Register.{Register}
use Rattle.ddt_register.specs.declared.fault.ReadFault.{ReadFault}
use Rattle.ddt_register.specs.Spelled.{Lists, lists_of}
use Rattle.ddt_review.specs.declared.sheets.broken_rule.BrokenRule.{BrokenRule}
use Rattle.ddt_review.specs.declared.sheets.fault_line.FaultLine.{FaultLine}
use Rattle.ddt_review.specs.declared.sheets.fault_line.FaultKind.{FaultKind}
use Rattle.ddt_review.specs.declared.sheets.fault_line.FaultKind.TheVariants as Of

-- what each fault is by its number and name
abbrev pub fault_kinds : List FaultLine → List FaultKind
fault_kinds faults = map (λ f. f.about) faults

-- broken rules as faults
abbrev pub rules_of : List BrokenRule → List FaultKind
rules_of broken = map (λ b. Of.Rule b) broken

-- what is told of a register: just the rules that are found broken in it
abbrev pub TellsBroken : (Register → Result (Vec BrokenRule) AllocError → Type 0) → Lists → List FaultKind → Type 0
TellsBroken finds lists told = (register : Register) × (lists_of register ≡ lists) × (broken : Vec BrokenRule)
    × finds register (Ok broken) × (told ≡ rules_of broken.items)

-- What is told of a file, by what its records spell. Of a register its broken rules are told, and of a file that spells
-- none at least one fault.
abbrev pub ReportsFaults : (Register → Result (Vec BrokenRule) AllocError → Type 0) → Result Lists ReadFault
    → List FaultKind → Type 0
ReportsFaults finds (Ok lists) told = TellsBroken finds lists told
ReportsFaults finds (Err fault) told = 0 < length told

-- the place of a fault: the file's name, and the line
abbrev pub place_text : List ℕ → ℕ → List ℕ
place_text name line = name ++ codes ":" ++ decimal line

-- the text of the fault, and the end of the line
abbrev pub ended_text : List ℕ → List ℕ
ended_text told = codes ": " ++ told ++ codes "\n"

-- the line of a fault
abbrev pub fault_text : List ℕ → FaultLine → List ℕ
fault_text name f = place_text name f.line ++ ended_text (string_bytes f.text)

-- the line of each fault
abbrev pub lines_text : List ℕ → List FaultLine → List ℕ
lines_text name faults = flat_map (fault_text name) faults

-- how many faults there are
abbrev pub count_text : ℕ → List ℕ
count_text n =
    if n == 0 then codes "no fault\n"
    else if n == 1 then codes "1 fault\n"
    else decimal n ++ codes " faults\n"

-- the line of each fault, and how many there are
abbrev pub faults_text : List ℕ → List FaultLine → List ℕ
faults_text name faults = lines_text name faults ++ count_text (length faults)
