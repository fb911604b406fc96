use Rattle.std.proofs.Common.{inr, refl, ◌∙◌}
use Rattle.ddt_plan_commands.specs.Review.{is_different}
use Rattle.ddt_plan_commands.proofs.WriterLemmas.{text_front}
use Rattle.ddt_plan_commands.proofs.diff_command.summarize.Goals as goal

pub returns-in_err-print-clause-front : goal.returns-in_err-print-clause-front
returns-in_err-print-clause-front g c =
    let v = c.in_ok-found.found in
    let is = c.in_ok-found.ensures.found in
    inr (_, (is_different v, (v, is, refl, c.deref.ensures.value ∙ c.in_ok-written_summary.ensures)), c.print.ensures.front)

pub returns-clause-whole : goal.returns-clause-whole
returns-clause-whole g c =
    let v = c.in_ok-found.found in
    let is = c.in_ok-found.ensures.found in
    (_, (v, is, c.is_different.ensures, c.deref.ensures.value ∙ c.in_ok-written_summary.ensures), c.in_ok-print.ensures.whole)

pub returns-clause-front : goal.returns-clause-front
returns-clause-front g c =
    let whole = returns-clause-whole g c in
    text_front _ _ _ (whole.0, (c.is_different.result, whole.1), whole.2)
