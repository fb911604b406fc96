use Rattle.std.specs.Fn.{FnReturnsAt}
use Rattle.ddt_commands.specs.CommandLine.Call.{call_of}
use Rattle.ddt_commands.specs.Commands.Answer.{answer_prints}
use Rattle.ddt_commands.proofs.EndLemmas.{ends}
use Rattle.ddt_commands.proofs.commands.answer.run_answer.Goals as goal

pub returns : goal.returns
returns g c =
    let ensures = c.lines_over-answer.ensures in
    ends (answer_prints (FnReturnsAt g.O.Fn c.args.open_file.now) g.F.Read.remaining (call_of c.args.words.now)) c.lines_over-answer.result c.print_result.result _
    ensures.text ensures.refused c.print_result.ensures
