use Rattle.std.proofs.Common.{◌≡◌, take}
use Rattle.clap.specs.Words.{app_of}
use Rattle.ddt_commands.specs.CommandLine.Line.{line}
use Rattle.ddt_commands.proofs.command_line.declaration.command_line.Given as goal

abbrev pub invariant-loop-declaration : goal.invariant-loop-declaration
invariant-loop-declaration l = app_of l.program ≡ line (take l.declaration-index l.commands)
