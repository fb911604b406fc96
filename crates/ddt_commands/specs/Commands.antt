-- The list of commands: what each takes, and what it prints.
pub mod Answer
pub mod Assign
pub mod Check
pub mod Compile
pub mod Lookup
pub mod Loop
pub mod Replay
pub mod Script
pub mod Serve
pub mod Show
use Rattle.std.specs.Prelude.{ℕ, ◌≡◌, List, [], ◌∷◌, map, Option}
use Rattle.clap.specs.Words.{App}
use Rattle.ddt_commands.specs.declared.command_line.declaration.Declaration.{Declaration}
use Rattle.ddt_commands.specs.CommandLine.Call.{Call}
use Rattle.ddt_commands.specs.CommandLine.Line.{line}
use Rattle.ddt_commands.specs.declared.commands.Command.{Command}
use Rattle.ddt_commands.specs.declared.commands.Command.TheVariants as named
use Rattle.ddt_commands.specs.Commands.Answer.{answer_prints, answer_takes}
use Rattle.ddt_commands.specs.Commands.Assign.{assign_prints, assign_takes}
use Rattle.ddt_commands.specs.Commands.Check.{check_prints, check_takes}
use Rattle.ddt_commands.specs.Commands.Compile.{compile_prints, compile_takes}
use Rattle.ddt_commands.specs.Commands.Lookup.{lookup_prints, lookup_takes}
use Rattle.ddt_commands.specs.Commands.Loop.{loop_prints, loop_takes}
use Rattle.ddt_commands.specs.Commands.Replay.{replay_prints, replay_takes}
use Rattle.ddt_commands.specs.Commands.Serve.{serve_prints, serve_takes}
use Rattle.ddt_commands.specs.Commands.Show.{show_prints, show_takes}
use Rattle.ddt_commands.specs.Ends.{Prints}
use Rattle.ddt_commands.specs.Wires.{OverWires}

-- what a command takes
abbrev pub declaration_of : Command → Declaration
declaration_of named.Answer = answer_takes
declaration_of named.Assign = assign_takes
declaration_of named.Check = check_takes
declaration_of named.Compile = compile_takes
declaration_of named.Loop = loop_takes
declaration_of named.Lookup = lookup_takes
declaration_of named.Replay = replay_takes
declaration_of named.Serve = serve_takes
declaration_of named.Show = show_takes

-- what all commands take, in the order of the usage
abbrev pub command_list : List Declaration
command_list =
    map declaration_of
    (named.Answer ∷ named.Assign ∷ named.Check ∷ named.Compile ∷ named.Loop ∷ named.Lookup ∷ named.Replay ∷ named.Serve
    ∷ named.Show ∷ [])

-- the word that asks for a command on the command line
abbrev pub name_of : Command → List ℕ
name_of command = (declaration_of command).name.now

-- the command line of the program
abbrev pub program_line : App
program_line = line command_list

-- what a command prints of a call, over what a path opens, what a file has and what is done over wires
abbrev pub prints_of : {F : Type 0} → (List ℕ → Option F → Type 0) → (F → Option (List ℕ)) → OverWires → Command → Call
    → Prints
prints_of opens remaining over named.Answer call = answer_prints opens remaining call
prints_of opens remaining over named.Assign call = assign_prints opens remaining call
prints_of opens remaining over named.Check call = check_prints opens remaining call
prints_of opens remaining over named.Compile call = compile_prints opens remaining call
prints_of opens remaining over named.Loop call =
    loop_prints opens remaining (over.untouched × over.unread) over.loops call
prints_of opens remaining over named.Lookup call = lookup_prints opens remaining call
prints_of opens remaining over named.Replay call = replay_prints opens remaining call
prints_of opens remaining over named.Serve call = serve_prints opens remaining over.untouched over.serves call
prints_of opens remaining over named.Show call = show_prints call
