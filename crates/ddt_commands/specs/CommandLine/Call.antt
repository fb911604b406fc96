-- The call of a command: its name, and what was given to it, by `clap`'s rule for commands with plain arguments and
-- options.
use Rattle.std.specs.Prelude.{◌≡◌, List, [], Option, Some, unwrap_or}
use Rattle.clap.specs.Words.{Row, Text, all_of, fault_of, first_of, found_of, rows_of, subcommand_of}
use Rattle.ddt_commands.specs.declared.command_line.declaration.Declaration.{Declaration}
use Rattle.ddt_commands.specs.declared.command_line.words.Words.{Words}
use Rattle.ddt_commands.specs.CommandLine.Line.{line}

-- a command's name, and the values of its arguments and options, each under its name
abbrev pub Call : Type 0
Call = Text × List Row

-- the call that a command line was read as: the command's name, and a row for each argument or option that was found
abbrev pub call_of : Words → Call
call_of w = (w.command.now, rows_of (found_of w.matches))

-- of these commands the words call this one, and without a fault
abbrev pub CallsCommand : List Declaration → List Text → Call → Type 0
CallsCommand commands words call =
    (fault_of (line commands) words ≡ []) × (subcommand_of (line commands) words ≡ Some call)

-- the word of an argument; empty where there is none
abbrev pub value : Text → Call → Text
value name call = unwrap_or (first_of name call.1) []

-- the value of an option
abbrev pub setting : Text → Call → Option Text
setting name call = first_of name call.1

-- all words of an argument
abbrev pub all_values : Text → Call → Option (List Text)
all_values name call = all_of name call.1
