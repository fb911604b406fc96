use Rattle.std.specs.Fn.{FnReturnsAt}
use Rattle.ddt_commands.specs.CommandLine.Call.{call_of}
use Rattle.ddt_commands.specs.Commands.Replay.{IsReplayText, IsWhyNoReplay}
use Rattle.ddt_commands.proofs.EndLemmas.{complete_ends}
use Rattle.ddt_commands.proofs.commands.replay.run_replay.Goals as goal

pub returns : goal.returns
returns g c =
    let opens = FnReturnsAt g.O.Fn c.args.open_file.now in
    let ensures = c.lines-answer.ensures in
    complete_ends (λ text. IsReplayText opens g.F.Read.remaining (call_of c.args.words.now) text)
    (λ why. IsWhyNoReplay opens g.F.Read.remaining (call_of c.args.words.now) why)
    c.lines-answer.result c.print_result.result _ ensures.text ensures.complete ensures.refused c.print_result.ensures
