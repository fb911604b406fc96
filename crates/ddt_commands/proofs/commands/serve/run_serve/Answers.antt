use Rattle.std.proofs.Common.{◌≡◌}
use Rattle.std.specs.Fn.{FnReturnsAt}
use Rattle.ddt_commands.specs.CommandLine.Call.{call_of}
use Rattle.ddt_commands.specs.Commands.Serve.{IsServeText, IsWhyNotServed, ServesOver}
use Rattle.ddt_commands.specs.Sockets.{Binds}
use Rattle.ddt_commands.proofs.EndLemmas.{complete_ends}
use Rattle.ddt_commands.proofs.commands.serve.run_serve.Goals as goal

pub returns-clause-ends : goal.returns-clause-ends
returns-clause-ends g c =
    let opens = FnReturnsAt g.O.Fn c.args.environment.now.open_file in
    let before = c.args.environment.now.wires in
    let after = c.lines-answer.new.environment.wires in
    let ensures = c.lines-answer.ensures in
    complete_ends
    (λ text. IsServeText opens g.F.Read.remaining (ServesOver (Binds g.B.Fn c.args.environment.now.bind) g.W.Wires.calls before after) (call_of c.args.words.now) text)
    (λ why. IsWhyNotServed opens g.F.Read.remaining (after ≡ before) (ServesOver (Binds g.B.Fn c.args.environment.now.bind) g.W.Wires.calls before after) (call_of c.args.words.now) why)
    c.lines-answer.result c.print_result.result _ ensures.text ensures.complete ensures.refused c.print_result.ensures
