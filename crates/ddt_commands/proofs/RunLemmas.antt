-- From what one command prints to what the words of a process print.
use Rattle.std.proofs.Common.{◌≡◌, ◌≢◌, inl, inr, ℕ, true, List, [], Option, Some, ap, sym, subst, refl, ◌∙◌}
use Rattle.clap.specs.Words.{App, fault_of, is_simple_and_free, subcommand_of}
use Rattle.ddt_commands.specs.declared.command_line.declaration.Declaration.{Declaration}
use Rattle.ddt_commands.specs.CommandLine.Call.{Call, CallsCommand}
use Rattle.ddt_commands.specs.CommandLine.Line.{line}
use Rattle.ddt_commands.specs.declared.commands.Command.{Command}
use Rattle.ddt_commands.specs.Commands.{command_list, name_of, prints_of, program_line}
use Rattle.ddt_commands.specs.declared.status.Status.{Status}
use Rattle.ddt_commands.specs.Ends.{Ends, Streams}
use Rattle.ddt_commands.specs.Program.{CallNone, CallsFor, DontCall, program_prints}
use Rattle.ddt_commands.specs.Wires.{OverWires}
use Rattle.ddt_commands.proofs.EndLemmas.{weaker}

-- clap's exact rule holds of the program's command line
program_is_simple : is_simple_and_free program_line ≡ true
program_is_simple = refl

pub simple_line : (ds : List Declaration) → line ds ≡ program_line → is_simple_and_free (line ds) ≡ true
simple_line ds e = ap is_simple_and_free e ∙ program_is_simple

-- a call by a list of declarations that make the program's command line is one by the program's own
pub program_calls : (ds : List Declaration) (words : List (List ℕ)) (call : Call) → line ds ≡ program_line → CallsCommand ds words call → CallsCommand command_list words call
program_calls ds words call e calls = subst (λ (a : App). (fault_of a words ≡ []) × (subcommand_of a words ≡ Some call)) e calls

pub calls_for : (words : List (List ℕ)) (command : Command) (call : Call) → CallsCommand command_list words call → name_of command ≡ call.0 → CallsFor words command call
calls_for words command call calls named = (calls, sym named)

-- words with a fault call nothing
pub bad_words : (ds : List Declaration) (words : List (List ℕ)) → line ds ≡ program_line → fault_of (line ds) words ≢ [] → CallNone words
bad_words ds words e bad = λ command call calls. bad (ap (λ (a : App). fault_of a words) e ∙ calls.0.0)

-- an end of the command that the words call is one of the program
pub command_ends : {F : Type 0} (opens : List ℕ → Option F → Type 0) (remaining : F → Option (List ℕ)) (over : OverWires) (words : List (List ℕ)) (command : Command) (call : Call)
    (status : Status) (on : Streams) → CallsFor words command call → Ends status on (prints_of opens remaining over command call)
    → Ends status on (program_prints opens remaining over words)
command_ends opens remaining over words command call status on calls e =
    weaker (prints_of opens remaining over command call) (program_prints opens remaining over words) status on
    (λ complete text h. (command, (call, calls, h))) (λ why h. inr (command, (call, calls, h))) e

-- words that don't call this command call another
pub another : (words : List (List ℕ)) (command this : Command) (call : Call) → CallsFor words command call → DontCall this words → command ≢ this
another words command this call calls none e = none call (subst (λ (c : Command). CallsFor words c call) e calls)
