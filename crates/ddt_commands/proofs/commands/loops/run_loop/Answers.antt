use Rattle.std.specs.Fn.{FnReturnsAt}
use Rattle.ddt_commands.specs.CommandLine.Call.{call_of}
use Rattle.ddt_commands.specs.Commands.Loop.{AreUntouched, LoopsOver, loop_prints}
use Rattle.ddt_commands.specs.Sockets.{Binds}
use Rattle.ddt_commands.proofs.EndLemmas.{ends}
use Rattle.ddt_commands.proofs.commands.loops.run_loop.Goals as goal

pub returns : goal.returns
returns g c =
    let before = c.args.environment.now in
    let after = c.lines-answer.new.environment in
    let ensures = c.lines-answer.ensures in
    ends (loop_prints (FnReturnsAt g.O.Fn before.open_file) g.F.Read.remaining (AreUntouched before.wires after.wires before.clock after.clock)
    (LoopsOver (Binds g.B.Fn before.bind) g.W.Wires.calls g.C.Clock.readings before.wires after.wires before.clock after.clock) (call_of c.args.words.now))
    c.lines-answer.result c.print_result.result _ ensures.text ensures.refused c.print_result.ensures
