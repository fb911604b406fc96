use Rattle.std.proofs.Common.{◌≡◌, ℕ, Bool, List, Option, inl, inr, sym, subst, ◌∙◌}
use Rattle.std.specs.Fn.{FnReturnsAt}
use Rattle.ddt_commands.specs.Ends.{HasText}
use Rattle.ddt_plan_commands.specs.Answers.{IsDiffAnswer}
use Rattle.ddt_plan_commands.specs.Ends.{diff_end}
use Rattle.ddt_plan_commands.specs.Refusals.{HasRefused, HasRefusedFront, IsWhyNoDiff}
use Rattle.ddt_plan_commands.proofs.EndLemmas.{ends_apart, no_refusal, same_end}
use Rattle.ddt_plan_commands.proofs.diff_command.run_diff.Goals as goal
use Rattle.ddt_plan_commands.proofs.diff_command.run_diff.Goals.{in-Ok, in-Err}

pub returns-clause-answered : goal.returns-clause-answered
returns-clause-answered g c = λ differs e. elim c.match-answered.branch [
  | in-Ok w ↦
      subst (λ (b : Bool). HasText (IsDiffAnswer (FnReturnsAt g.O.Fn c.args.open_file) g.F.Read.remaining c.args.asked.now b) (g.W.Write.contents c.args.out) (g.W.Write.contents c.write_changes-answered.new.lines.out))
      (same_end w.in-Ok.differs differs (sym w.diff_end-end.ensures ∙ (sym w.end-is ∙ e))) w.in-Ok.ensures.whole
  | in-Err w ↦ absurd (ends_apart differs _ (sym w.end-is ∙ e) w.report-end.ensures.ends)
]

pub returns-clause-refused : goal.returns-clause-refused
returns-clause-refused g c = λ e. elim c.match-answered.branch [
  | in-Ok w ↦ absurd (no_refusal w.in-Ok.differs (sym w.diff_end-end.ensures ∙ (sym w.end-is ∙ e)))
  | in-Err w ↦
      let told = w.report-end.ensures.told (sym w.end-is ∙ e) in
      subst (λ (err : g.row.E.Denot). HasRefused (IsWhyNoDiff (FnReturnsAt g.O.Fn c.args.open_file) g.F.Read.remaining c.args.asked.now) (g.E.Write.contents c.args.err.now) (g.E.Write.contents err)) (sym w.err-is)
      (told.0, w.in-Err.ensures.refused told.0 told.1, told.2)
]

pub returns-clause-told : goal.returns-clause-told
returns-clause-told g c = elim c.match-answered.branch [
  | in-Ok w ↦ inl w.err-is
  | in-Err w ↦ elim w.report-end.ensures.front [
    | inl same ↦ inl (w.err-is ∙ same)
    | inr told ↦ inr (
        subst (λ (err : g.row.E.Denot). HasRefusedFront (IsWhyNoDiff (FnReturnsAt g.O.Fn c.args.open_file) g.F.Read.remaining c.args.asked.now) (g.E.Write.contents c.args.err.now) (g.E.Write.contents err)) (sym w.err-is)
        (told.0, w.in-Err.ensures.refused told.0 told.1, told.2)
        )
  ]
]
