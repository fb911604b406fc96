use Rattle.std.proofs.Common.{ℕ, Bool, List, subst}
use Rattle.std.proofs.lemmas.Result.{IfErr-weaker, IfOk-weaker}
use Rattle.std.specs.Fn.{FnReturnsAt}
use Rattle.ddt_plan_commands.specs.Answers.{IsDiffText}
use Rattle.ddt_plan_commands.specs.Refusals.{IsWhyNoDiff, IsWhyUnwritten, is_counted}
use Rattle.ddt_plan_commands.proofs.AnswerLemmas.{diff_answer, no_diff, same_why}
use Rattle.ddt_plan_commands.proofs.WriterLemmas.{front_wider, text_wider}
use Rattle.ddt_plan_commands.proofs.diff_command.write_changes.Goals as goal

pub returns-in-Ok-clause-whole : goal.returns-in-Ok-clause-whole
returns-in-Ok-clause-whole g c =
    IfOk-weaker c.write_flushed.result _ _
    (λ differs h. text_wider (IsDiffText c.args.asked.now c.in-Ok.before c.in-Ok.after differs) _ _ _
    (diff_answer (FnReturnsAt g.O.Fn c.args.open_file.now) g.F.Read.remaining c.args.asked.now c.in-Ok.before c.in-Ok.after c.in-Ok.ensures.before c.in-Ok.ensures.after differs) h)
    c.write_flushed.ensures.whole

pub returns-in-Ok-clause-front : goal.returns-in-Ok-clause-front
returns-in-Ok-clause-front g c =
    front_wider (λ (text : List ℕ). (differs : Bool) × IsDiffText c.args.asked.now c.in-Ok.before c.in-Ok.after differs text) _ _ _
    (λ text is. (is.0, diff_answer (FnReturnsAt g.O.Fn c.args.open_file.now) g.F.Read.remaining c.args.asked.now c.in-Ok.before c.in-Ok.after c.in-Ok.ensures.before c.in-Ok.ensures.after is.0 text is.1))
    c.write_flushed.ensures.front

pub returns-in-Ok-clause-refused : goal.returns-in-Ok-clause-refused
returns-in-Ok-clause-refused g c =
    IfErr-weaker c.write_flushed.result _ _
    (λ stop h why e. no_diff (FnReturnsAt g.O.Fn c.args.open_file.now) g.F.Read.remaining c.args.asked.now c.in-Ok.before c.in-Ok.after c.in-Ok.ensures.before c.in-Ok.ensures.after why (subst (IsWhyUnwritten (is_counted c.args.asked.now.output)) e h))
    c.write_flushed.ensures.refused

pub returns-in-Err-clause-refused : goal.returns-in-Err-clause-refused
returns-in-Err-clause-refused g c =
    λ why e. subst (IsWhyNoDiff (FnReturnsAt g.O.Fn c.args.open_file.now) g.F.Read.remaining c.args.asked.now) (same_why c.in-Err.why why e) c.in-Err.ensures.refused
