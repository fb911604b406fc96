use Rattle.ddt_commands.specs.CommandLine.Call.{call_of}
use Rattle.ddt_commands.specs.Commands.Show.{IsShowText, IsWhyNotShown}
use Rattle.ddt_commands.proofs.EndLemmas.{complete_ends}
use Rattle.ddt_commands.proofs.commands.show.run_show.Goals as goal

pub returns : goal.returns
returns g c =
    let ensures = c.lines-answer.ensures in
    complete_ends (λ text. IsShowText (call_of c.args.words.now) text) (λ why. IsWhyNotShown (call_of c.args.words.now) why)
    c.lines-answer.result c.print_result.result _ ensures.text ensures.complete ensures.refused c.print_result.ensures
