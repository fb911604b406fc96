-- A register in a file: what its bytes spell, and why they spell none that keeps all rules.
use Rattle.std.specs.Prelude.{ℕ, ◌≡◌, ⊤, List, Option, None, Some, Result, Ok, Err}
use Rattle.csv.specs.Reading.{default_config, records, strip_bom}
use Rattle.ddt_register.specs.declared.fault.ReadFault.{ReadFault}
use Rattle.ddt_register.specs.declared.register.Register.{Register}
use Rattle.ddt_register.specs.Spelled.{Lists, spelled, lists_of}
use Rattle.ddt_check.specs.declared.fault.Fault.{Fault}
use Rattle.ddt_check.specs.Rules.{IsLeastFault}
use Rattle.ddt_commands.specs.declared.refusal.Refusal.{Refusal}
use Rattle.ddt_commands.specs.declared.refusal.Refusal.TheVariants.{NoRegister, OutOfMemory}
use Rattle.ddt_commands.specs.declared.refusal.register_file.RegisterRefusal.{RegisterRefusal}
use Rattle.ddt_commands.specs.declared.refusal.register_file.RegisterRefusal.TheVariants.{CannotOpen, Unreadable, CannotRead, BreaksRule, NoSuchGroup, OtherRoots}

-- the register that the bytes of a file spell, or the first fault in them
abbrev pub register_in : List ℕ → Result Lists ReadFault
register_in bytes = spelled (records default_config (strip_bom bytes))

-- the bytes spell this register
abbrev pub Spell : List ℕ → Register → Type 0
Spell bytes r = register_in bytes ≡ Ok (lists_of r)

-- this is the least rule that the register breaks, and the least row that breaks it
abbrev pub IsRuleBroken : Register → Refusal → Type 0
IsRuleBroken r why = (fault : Fault) × (why ≡ NoRegister (BreaksRule fault)) × IsLeastFault r fault.rule fault.row

-- an opened file has these bytes; one that couldn't be opened, or whose bytes aren't known, has none
abbrev pub HasBytes : {F : Type 0} → (F → Option (List ℕ)) → Option F → List ℕ → Type 0
HasBytes remaining None bytes = ⊥
HasBytes remaining (Some file) bytes = remaining file ≡ Some bytes

-- the bytes have this first fault, as bytes or against the rules, where the refusal names one
abbrev pub IsFaultIn : List ℕ → RegisterRefusal → Type 0
IsFaultIn bytes (CannotOpen path) = ⊥
IsFaultIn bytes (Unreadable fault) = register_in bytes ≡ Err fault
IsFaultIn bytes CannotRead = ⊤
IsFaultIn bytes (BreaksRule fault) = (r : Register) × Spell bytes r × IsLeastFault r fault.rule fault.row
IsFaultIn bytes NoSuchGroup = ⊥
IsFaultIn bytes (OtherRoots path) = ⊥

-- why a path gives no accepted register: it can't be opened, or its bytes are at fault; reading may fail, and memory
-- may be wanted, once a file is open
abbrev pub IsWhyNoRegister : {F : Type 0} → (F → Option (List ℕ)) → Option F → List ℕ → Refusal → Type 0
IsWhyNoRegister remaining None path (NoRegister (CannotOpen name)) = name.now ≡ path
IsWhyNoRegister remaining None path why = ⊥
IsWhyNoRegister remaining (Some file) path (NoRegister why) =
    (bytes : List ℕ) → remaining file ≡ Some bytes → IsFaultIn bytes why
IsWhyNoRegister remaining (Some file) path OutOfMemory = ⊤
IsWhyNoRegister remaining (Some file) path why = ⊥
