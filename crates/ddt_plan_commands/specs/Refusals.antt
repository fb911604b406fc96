-- Why the commands refuse, and what they then say.
use Rattle.std.specs.Prelude.{ℕ, Bool, ◌≡◌, ◌⊎◌, ⊤, true, false, List, ◌++◌, Option, None, Some, Result, Ok, Err, codes, IfSome}
use Rattle.std.specs.Option.{option_map}
use Rattle.std.specs.Io.KnownBytes.{Appends}
use Rattle.ddt_text.specs.declared.fault.TextFault.{TextFault}
use Rattle.ddt_text.specs.FirstFault.{prefix_in}
use Rattle.ddt_lines.specs.Lines.{ended}
use Rattle.ddt_lines.specs.Printing.{AppendsFront}
use Rattle.ddt_commands.specs.Over.{OfItsRegister}
use Rattle.ddt_commands.specs.Register.{IsWhyNoRegister}
use Rattle.ddt_commands.specs.Refusal.{refusal_text}
use Rattle.ddt_commands.specs.declared.refusal.Refusal.{Refusal}
use Rattle.ddt_commands.specs.declared.refusal.Refusal.TheVariants as ddt
use Rattle.ddt_commands.specs.declared.refusal.register_file.RegisterRefusal.TheVariants as register
use Rattle.ddt_plan.specs.declared.counts.CountFull.{CountFull as TooManyToCount}
use Rattle.ddt_plan.specs.declared.sink.PlanFault.{PlanFault}
use Rattle.ddt_plan.specs.declared.sink.PlanFault.TheVariants as plan
use Rattle.ddt_plan_commands.specs.declared.block_lines.LineFault.{LineFault}
use Rattle.ddt_plan_commands.specs.declared.block_lines.LineFault.TheVariants as line
use Rattle.ddt_plan_commands.specs.declared.arguments.BlocksAsked.{BlocksAsked}
use Rattle.ddt_plan_commands.specs.declared.arguments.DiffAsked.{DiffAsked}
use Rattle.ddt_plan_commands.specs.declared.arguments.DiffOutput.{DiffOutput}
use Rattle.ddt_plan_commands.specs.declared.arguments.DiffOutput.TheVariants.{Changes, Counts, Summary}
use Rattle.ddt_plan_commands.specs.declared.refusal.PlanRefusal.{PlanRefusal}
use Rattle.ddt_plan_commands.specs.declared.refusal.PlanRefusal.TheVariants.{BadPrefix, NoRegister, CountFull, OutOfMemory}
use Rattle.ddt_plan_commands.specs.declared.command_error.CommandError.{CommandError}
use Rattle.ddt_plan_commands.specs.declared.command_error.CommandError.TheVariants.{Refused, Unprinted}

-- the refusal of a word that is no prefix
abbrev pub bad_prefix : Result (List ℕ) TextFault → Option PlanRefusal
bad_prefix (Ok p) = None
bad_prefix (Err fault) = Some (BadPrefix fault)

-- why a path gives no accepted register: the refusal names the path
abbrev pub IsWhyUnopened : {F : Type 0} → (F → Option (List ℕ)) → Option F → List ℕ → PlanRefusal → Type 0
IsWhyUnopened remaining source path (BadPrefix fault) = ⊥
IsWhyUnopened remaining source path (NoRegister name why) =
    (name.now ≡ path) × IsWhyNoRegister remaining source path why
IsWhyUnopened remaining source path CountFull = ⊥
IsWhyUnopened remaining source path OutOfMemory = ⊥

-- why a path gives none, whatever it opens to
abbrev pub IsUnopened : {F : Type 0} → (List ℕ → Option F → Type 0) → (F → Option (List ℕ)) → List ℕ → PlanRefusal
    → Type 0
IsUnopened opens remaining path why =
    (source : Option _) × opens path source × IsWhyUnopened remaining source path why

-- why an answer stops once its registers are read; a count may be full only where counts are asked for
abbrev pub IsWhyUnwritten : Bool → CommandError → Type 0
IsWhyUnwritten counted (Refused (BadPrefix fault)) = ⊥
IsWhyUnwritten counted (Refused (NoRegister name why)) = ⊥
IsWhyUnwritten counted (Refused CountFull) = counted ≡ true
IsWhyUnwritten counted (Refused OutOfMemory) = ⊤
IsWhyUnwritten counted Unprinted = ⊤

-- how a command stops where a sink didn't take all
abbrev pub stop_of_lines : PlanFault LineFault → CommandError
stop_of_lines plan.Memory = Refused OutOfMemory
stop_of_lines (plan.Refused line.Memory) = Refused OutOfMemory
stop_of_lines (plan.Refused line.Unprinted) = Unprinted

-- How a command stops where not all was counted: it refuses, as memory ran out or as a count would pass 2^64 - 1.
abbrev pub stop_of_counts : PlanFault TooManyToCount → CommandError
stop_of_counts plan.Memory = Refused OutOfMemory
stop_of_counts (plan.Refused full) = Refused CountFull

-- why `blocks` refuses: its prefix is none; its register; or counts are full, or memory runs out, once that is read
abbrev pub IsWhyNoBlocks : {F : Type 0} → (List ℕ → Option F → Type 0) → (F → Option (List ℕ)) → BlocksAsked
    → PlanRefusal → Type 0
IsWhyNoBlocks opens remaining asked why =
    (bad_prefix (prefix_in asked.inside.now) ≡ Some why)
    ⊎ ((source : Option _) × opens asked.register.now source
    × (IsWhyUnopened remaining source asked.register.now why
    ⊎ OfItsRegister remaining source (λ r. IsWhyUnwritten asked.counted (Refused why))))

-- the numbers of changes of each kind are asked for
abbrev pub is_counted : DiffOutput → Bool
is_counted Counts = true
is_counted Summary = false
is_counted Changes = false

-- why `diff` refuses: one of its registers; or counts are full, or memory runs out, once both are read
abbrev pub IsWhyNoDiff : {F : Type 0} → (List ℕ → Option F → Type 0) → (F → Option (List ℕ)) → DiffAsked → PlanRefusal
    → Type 0
IsWhyNoDiff opens remaining asked why =
    (old : Option _) × opens asked.before.now old
    × (IsWhyUnopened remaining old asked.before.now why ⊎ OfItsRegister remaining old (λ before.
    (new : Option _) × opens asked.after.now new
    × (IsWhyUnopened remaining new asked.after.now why
    ⊎ OfItsRegister remaining new (λ after. IsWhyUnwritten (is_counted asked.output) (Refused why)))))

-- the text where this path gives no accepted register: the path and why, or that memory ran out; None where a fault is
-- shown, whose text is the fault's own
abbrev pub no_register_text : List ℕ → Refusal → Option (List ℕ)
no_register_text path (ddt.NoRegister (register.CannotOpen name)) = Some (codes "cannot open " ++ name.now)
no_register_text path ddt.OutOfMemory = Some (codes "out of memory")
no_register_text path why = option_map (λ text. path ++ (codes ": " ++ text)) (refusal_text why)

-- The text for whatever `blocks` or `diff` refuses; none where it shows the fault of a prefix or of a register.
abbrev pub plan_refusal_text : PlanRefusal → Option (List ℕ)
plan_refusal_text (BadPrefix fault) = None
plan_refusal_text (NoRegister path why) = no_register_text path.now why
plan_refusal_text CountFull = Some (codes "too many blocks to count")
plan_refusal_text OutOfMemory = Some (codes "out of memory")

-- The text is the refusal's line. Of a refusal whose text hangs on a fault's own this says nothing.
abbrev pub IsLineOf : PlanRefusal → List ℕ → Type 0
IsLineOf why line = IfSome (plan_refusal_text why) (λ text. line ≡ ended text)

-- the refusal's line, or that memory ran out where none is left for it
abbrev pub IsToldAs : PlanRefusal → List ℕ → Type 0
IsToldAs why line = IsLineOf why line ⊎ (line ≡ ended (codes "out of memory"))

-- a line that tells such a refusal was appended
abbrev pub HasRefused : (PlanRefusal → Type 0) → Option (List ℕ) → Option (List ℕ) → Type 0
HasRefused is_why old new =
    (why : PlanRefusal) × is_why why × ((line : List ℕ) × IsToldAs why line × Appends old new line)

-- a front of such a line was appended
abbrev pub HasRefusedFront : (PlanRefusal → Type 0) → Option (List ℕ) → Option (List ℕ) → Type 0
HasRefusedFront is_why old new =
    (why : PlanRefusal) × is_why why × ((line : List ℕ) × IsToldAs why line × AppendsFront old new line)
