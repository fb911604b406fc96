use Rattle.std.proofs.Common.{map}
use Rattle.std.specs.Fn.{FnReturnsAt}
use Rattle.ddt_commands.specs.Commands.Replay.{IsReplayOf, IsWhyNotReplayed}
use Rattle.ddt_commands.proofs.EndLemmas.{complete_ends}
use Rattle.ddt_commands.proofs.commands.replay.run_script.Goals as goal

pub returns : goal.returns
returns g c =
    let opens = FnReturnsAt g.O.Fn c.args.open_file.now in
    let asked = c.args.replay.now in
    let more = map (λ t. t.now) c.args.registers.now in
    let ensures = c.replayed-answer.ensures in
    complete_ends (λ text. IsReplayOf opens g.F.Read.remaining asked.register.now asked.script.now more asked.me asked.seed text)
    (λ why. IsWhyNotReplayed opens g.F.Read.remaining asked.register.now asked.script.now more why)
    c.replayed-answer.result c.print_result.result _ ensures.text ensures.complete ensures.refused c.print_result.ensures
