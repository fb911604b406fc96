use Rattle.std.proofs.Common.{inr, refl, rules, subst}
use Rattle.std.specs.Prelude.{IfErr}
use Rattle.std.proofs.lemmas.Result.{IfErr-weaker}
use Rattle.std.specs.Fn.{FnReturnsAt}
use Rattle.ddt_plan_commands.specs.Answers.{IsBlocksText}
use Rattle.ddt_plan_commands.specs.Refusals.{IsWhyUnwritten}
use Rattle.ddt_plan_commands.proofs.AnswerLemmas.{blocks_answer}
use Rattle.ddt_plan_commands.proofs.WriterLemmas.{front_kept, front_wider, text_front, text_kept, text_wider}
use Rattle.ddt_plan_commands.proofs.blocks_command.write_blocks.Goals as goal

pub returns-in_err-write_inside-clause-front : goal.returns-in_err-write_inside-clause-front
returns-in_err-write_inside-clause-front g c =
    front_wider (IsBlocksText c.args.asked.now c.in_ok-register.register c.in_ok-inside.inside) _ _ _
    (blocks_answer (FnReturnsAt g.O.Fn c.args.open_file) g.F.Read.remaining c.args.asked.now c.in_ok-inside.inside c.in_ok-register.register c.in_ok-inside.ensures.found (record {
      source = c.open_file.result;
      opened = record { shown = c.args.asked.now.register; shows = refl; says = record { met = c.open_file.ensures } };
      some = c.in_ok-register.ensures.opened;
      accepted = c.in_ok-register.ensures.accepted;
      spelled = c.in_ok-register.ensures.spelled;
    }))
    c.in_err-write_inside.ensures.front

pub returns-in_err-flush-clause-front : goal.returns-in_err-flush-clause-front
returns-in_err-flush-clause-front g c =
    front_kept _ _ _ _
    (front_wider (IsBlocksText c.args.asked.now c.in_ok-register.register c.in_ok-inside.inside) _ _ _
    (blocks_answer (FnReturnsAt g.O.Fn c.args.open_file) g.F.Read.remaining c.args.asked.now c.in_ok-inside.inside c.in_ok-register.register c.in_ok-inside.ensures.found (record {
      source = c.open_file.result;
      opened = record { shown = c.args.asked.now.register; shows = refl; says = record { met = c.open_file.ensures } };
      some = c.in_ok-register.ensures.opened;
      accepted = c.in_ok-register.ensures.accepted;
      spelled = c.in_ok-register.ensures.spelled;
    }))
    c.in_ok-write_inside.ensures.front)
    c.flush.ensures.bytes

pub returns-clause-whole : goal.returns-clause-whole
returns-clause-whole g c =
    text_kept _ _ _ _
    (text_wider (IsBlocksText c.args.asked.now c.in_ok-register.register c.in_ok-inside.inside) _ _ _
    (blocks_answer (FnReturnsAt g.O.Fn c.args.open_file) g.F.Read.remaining c.args.asked.now c.in_ok-inside.inside c.in_ok-register.register c.in_ok-inside.ensures.found (record {
      source = c.open_file.result;
      opened = record { shown = c.args.asked.now.register; shows = refl; says = record { met = c.open_file.ensures } };
      some = c.in_ok-register.ensures.opened;
      accepted = c.in_ok-register.ensures.accepted;
      spelled = c.in_ok-register.ensures.spelled;
    }))
    c.in_ok-write_inside.ensures.whole)
    c.flush.ensures.bytes

pub returns-clause-front : goal.returns-clause-front
returns-clause-front g c = text_front _ _ _ (returns-clause-whole g c)

pub returns-in_err-write_inside-clause-refused : goal.returns-in_err-write_inside-clause-refused
returns-in_err-write_inside-clause-refused g c =
    let unwritten : IfErr c.from_residual-in_err-write_inside.result (IsWhyUnwritten c.args.asked.now.counted) = search (rules, c.in_err-write_inside.ensures.refused) in
    IfErr-weaker c.from_residual-in_err-write_inside.result _ _ (λ stop h why e.
    inr (
      c.open_file.result,
      record { shown = c.args.asked.now.register; shows = refl; says = record { met = c.open_file.ensures } },
      inr (
        c.in_ok-register.ensures.opened,
        (
          c.in_ok-register.register,
          c.in_ok-register.ensures.accepted,
          c.in_ok-register.ensures.spelled,
          subst (IsWhyUnwritten c.args.asked.now.counted) e h,
        ),
      ),
    )) unwritten
