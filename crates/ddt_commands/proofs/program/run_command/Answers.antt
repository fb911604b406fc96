use Rattle.std.specs.Fn.{FnReturnsAt}
use Rattle.ddt_commands.specs.CommandLine.Call.{call_of}
use Rattle.ddt_commands.specs.Commands.{prints_of}
use Rattle.ddt_commands.specs.Sockets.{Binds}
use Rattle.ddt_commands.specs.Wires.{over_wires}
use Rattle.ddt_commands.proofs.EndLemmas.{ends}
use Rattle.ddt_commands.proofs.program.run_command.Goals as goal

pub returns-clause-ends : goal.returns-clause-ends
returns-clause-ends g c =
    let before = c.args.environment.now in
    let after = c.lines_of-answer.new.environment in
    let ensures = c.lines_of-answer.ensures in
    ends (prints_of (FnReturnsAt g.O.Fn before.open_file) g.F.Read.remaining
    (over_wires (Binds g.B.Fn before.bind) g.W.Wires.calls g.C.Clock.readings before.wires after.wires before.clock after.clock) c.args.command (call_of c.args.words.now))
    c.lines_of-answer.result c.print_result.result _ ensures.text ensures.refused c.print_result.ensures
