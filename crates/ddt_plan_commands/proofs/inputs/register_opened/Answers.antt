use Rattle.std.proofs.Common.{refl}
use Rattle.std.proofs.lemmas.Result.{IfErr-weaker}
use Rattle.std.specs.Fn.{FnReturnsAt}
use Rattle.ddt_plan_commands.proofs.AnswerLemmas.{opened_at}
use Rattle.ddt_plan_commands.proofs.inputs.register_opened.Goals as goal

pub returns-clause-opened : goal.returns-clause-opened
returns-clause-opened g c =
    let read = c.register_of.ensures in
    opened_at (FnReturnsAt g.O.Fn c.args.open_file.now) g.F.Read.remaining c.args.path.now c.open_file.result c.register_of.result
    (record { shown = c.args.path; shows = refl; says = record { met = c.open_file.ensures } }) read.opened read.accepted read.spelled

pub returns-clause-refused : goal.returns-clause-refused
returns-clause-refused g c =
    IfErr-weaker c.register_of.result _ _ (λ why is. (c.open_file.result, record { shown = c.args.path; shows = refl; says = record { met = c.open_file.ensures } }, is))
    c.register_of.ensures.refused
