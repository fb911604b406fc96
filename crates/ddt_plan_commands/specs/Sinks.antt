-- What the sinks that write do with an item.
use Rattle.std.specs.Prelude.{ℕ, ◌≡◌, List, Option, Result, Ok, Err}
use Rattle.std.specs.Io.KnownBytes.{Appends}
use Rattle.ddt_lines.specs.Printing.{AppendsFront}
use Rattle.ddt_plan.specs.declared.block_list.Block.{Block}
use Rattle.ddt_plan.specs.declared.change_list.Change.{Change}
use Rattle.ddt_plan_commands.specs.declared.block_lines.LineFault.{LineFault}
use Rattle.ddt_plan_commands.specs.declared.block_lines.BlockLines.{BlockLines}
use Rattle.ddt_plan_commands.specs.declared.change_lines.ChangeLines.{ChangeLines}
use Rattle.ddt_plan_commands.specs.Written.{listed_block, written_change}

-- a text is appended, or a front of it where that fails
abbrev pub Prints : Result (Unit {0}) LineFault → Option (List ℕ) → Option (List ℕ) → List ℕ → Type 0
Prints (Ok all) old new text = Appends old new text
Prints (Err why) old new text = AppendsFront old new text

-- what is asked for stays, and the line of a block is printed
abbrev pub TakesBlock : {W : Type 0} → (W → Option (List ℕ)) → BlockLines W → Block → Result (Unit {0}) LineFault
    → BlockLines W → Type 0
TakesBlock contents before block answer after =
    (after.form ≡ before.form) × (after.with_holes ≡ before.with_holes)
    × Prints answer (contents before.out) (contents after.out) (listed_block before.form before.with_holes block)

-- The line of a change is printed, in the form that is asked for, which stays.
abbrev pub TakesChange : {W : Type 0} → (W → Option (List ℕ)) → ChangeLines W → Change → Result (Unit {0}) LineFault
    → ChangeLines W → Type 0
TakesChange contents before change answer after =
    (after.form ≡ before.form)
    × Prints answer (contents before.out) (contents after.out) (written_change before.form change)
