use Rattle.std.proofs.Common.{inr, rules}
use Rattle.std.proofs.lemmas.Result.{IfErr-weaker, IfOk-weaker}
use Rattle.ddt_commands.proofs.OverLemmas.{of_register}
use Rattle.ddt_commands.proofs.over_register.lines_over.Goals as goal

pub returns-clause-text : goal.returns-clause-text
returns-clause-text g c =
    let accepted = c.in_ok-register.ensures in
    IfOk-weaker c.lines.result _ _ (λ lines h. (
      c.in-Ok.ensures.good,
      (
        c.open_file.result,
        record { shown = c.value-path.result; shows = c.value-path.ensures; says = record { met = c.open_file.ensures } },
        of_register _ _ _ c.in_ok-register.register
            (λ e. search (rules, accepted.closed e)) accepted.accepted accepted.spelled h,
      ),
    )) (c.lines.ensures.text _ c.in-Ok.ensures.asks)

pub returns-clause-refused : goal.returns-clause-refused
returns-clause-refused g c =
    let accepted = c.in_ok-register.ensures in
    IfErr-weaker c.lines.result _ _ (λ why h. inr (
      c.in-Ok.ensures.good,
      (
        c.open_file.result,
        record { shown = c.value-path.result; shows = c.value-path.ensures; says = record { met = c.open_file.ensures } },
        inr (of_register _ _ _ c.in_ok-register.register
            (λ e. search (rules, accepted.closed e)) accepted.accepted accepted.spelled h),
      ),
    )) (c.lines.ensures.refused _ c.in-Ok.ensures.asks)
