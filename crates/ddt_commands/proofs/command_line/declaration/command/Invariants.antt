use Rattle.std.proofs.Common.{◌≡◌, take}
use Rattle.clap.specs.Words.{app_of, new_app}
use Rattle.ddt_commands.specs.CommandLine.Line.{with_arguments}
use Rattle.ddt_commands.proofs.command_line.declaration.command.Given as goal

abbrev pub invariant-loop-argument : goal.invariant-loop-argument
invariant-loop-argument l = app_of l.command ≡ with_arguments (new_app l.declaration.name.now) (take l.argument-index l.declaration.arguments.now)
