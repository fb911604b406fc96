-- What the words of a process call, and what the program prints of them.
use Rattle.std.specs.Prelude.{ℕ, ◌≡◌, ◌⊎◌, List, Option}
use Rattle.ddt_commands.specs.CommandLine.Call.{Call, CallsCommand}
use Rattle.ddt_commands.specs.declared.commands.Command.{Command}
use Rattle.ddt_commands.specs.declared.refusal.Refusal.TheVariants.{OutOfMemory}
use Rattle.ddt_commands.specs.Commands.{command_list, name_of, prints_of}
use Rattle.ddt_commands.specs.Ends.{Prints, prints}
use Rattle.ddt_commands.specs.Wires.{OverWires}

-- the words call this command
abbrev pub CallsFor : List (List ℕ) → Command → Call → Type 0
CallsFor words command call = CallsCommand command_list words call × (call.0 ≡ name_of command)

-- the words call no command
abbrev pub CallNone : List (List ℕ) → Type 0
CallNone words = (command : Command) (call : Call) → CallsFor words command call → ⊥

-- the words don't call this command
abbrev pub DontCall : Command → List (List ℕ) → Type 0
DontCall command words = (call : Call) → CallsFor words command call → ⊥

-- What the program prints of words: what the command that they call prints. Memory may run out at any time; then this
-- says nothing more.
abbrev pub program_prints : {F : Type 0} → (List ℕ → Option F → Type 0) → (F → Option (List ℕ)) → OverWires
    → List (List ℕ) → Prints
program_prints opens remaining over words =
    prints (λ complete text. (command : Command)
    × ((call : Call) × CallsFor words command call × (prints_of opens remaining over command call).text complete text))
    (λ why. (why ≡ OutOfMemory)
    ⊎ ((command : Command)
    × ((call : Call) × CallsFor words command call × (prints_of opens remaining over command call).refusal why)))
