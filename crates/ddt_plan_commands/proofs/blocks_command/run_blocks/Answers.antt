use Rattle.std.proofs.Common.{inl, inr, sym, subst, ◌∙◌}
use Rattle.std.specs.Fn.{FnReturnsAt}
use Rattle.ddt_plan_commands.specs.Refusals.{HasRefused, HasRefusedFront, IsWhyNoBlocks}
use Rattle.ddt_plan_commands.proofs.blocks_command.run_blocks.Goals as goal
use Rattle.ddt_plan_commands.proofs.blocks_command.run_blocks.Goals.{in-Ok, in-Err}

pub returns-clause-refused : goal.returns-clause-refused
returns-clause-refused g c = λ e. elim c.match-answered.branch [
  | in-Ok w ↦ absurd (cc (sym w.end-is ∙ e))
  | in-Err w ↦
      let told = w.report-end.ensures.told (sym w.end-is ∙ e) in
      subst (λ (err : g.row.E.Denot). HasRefused (IsWhyNoBlocks (FnReturnsAt g.O.Fn c.args.open_file) g.F.Read.remaining c.args.asked.now) (g.E.Write.contents c.args.err.now) (g.E.Write.contents err)) (sym w.err-is)
      (told.0, w.in-Err.ensures.refused told.0 told.1, told.2)
]

pub returns-clause-told : goal.returns-clause-told
returns-clause-told g c = elim c.match-answered.branch [
  | in-Ok w ↦ inl w.err-is
  | in-Err w ↦ elim w.report-end.ensures.front [
    | inl same ↦ inl (w.err-is ∙ same)
    | inr told ↦ inr (
        subst (λ (err : g.row.E.Denot). HasRefusedFront (IsWhyNoBlocks (FnReturnsAt g.O.Fn c.args.open_file) g.F.Read.remaining c.args.asked.now) (g.E.Write.contents c.args.err.now) (g.E.Write.contents err)) (sym w.err-is)
        (told.0, w.in-Err.ensures.refused told.0 told.1, told.2)
        )
  ]
]
