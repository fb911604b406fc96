use Rattle.std.proofs.Common.{take}
use Rattle.std.specs.Fn.{FnReturnsAt}
use Rattle.ddt_commands.specs.Commands.Replay.{AreRegistersAt}
use Rattle.ddt_commands.proofs.Texts.{texts}
use Rattle.ddt_commands.proofs.commands.replay.replayed.Given as goal

-- the registers of the paths so far
abbrev pub invariant-loop-path : goal.invariant-loop-path
invariant-loop-path g l = AreRegistersAt (FnReturnsAt g.O.Fn l.open_file) g.F.Read.remaining (take l.path-index (texts l.registers)) l.others.items
