use Rattle.std.proofs.Common.{rules}
use Rattle.std.specs.Prelude.{IfErr}
use Rattle.std.proofs.lemmas.Result.{IfErr-weaker}
use Rattle.std.specs.Fn.{FnReturnsAt}
use Rattle.ddt_plan_commands.specs.Refusals.{IsUnopened}
use Rattle.ddt_plan_commands.proofs.AnswerLemmas.{no_after}
use Rattle.ddt_plan_commands.proofs.diff_command.registers_of.Goals as goal

pub returns-in_err-after-clause-refused : goal.returns-in_err-after-clause-refused
returns-in_err-after-clause-refused g c =
    let unopened : IfErr c.from_residual-in_err-after.result (IsUnopened (FnReturnsAt g.O.Fn c.args.open_file.now) g.F.Read.remaining c.args.asked.now.after.now) =
    search (rules, c.in_err-after.ensures.refused) in
    IfErr-weaker c.from_residual-in_err-after.result _ _
    (no_after (FnReturnsAt g.O.Fn c.args.open_file.now) g.F.Read.remaining c.args.asked.now c.in_ok-before.before c.in_ok-before.ensures.opened) unopened
