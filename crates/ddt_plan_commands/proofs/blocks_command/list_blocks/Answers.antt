use Rattle.std.proofs.Common.{inr, refl}
use Rattle.std.specs.Prelude.{Err}
use Rattle.ddt_plan_commands.specs.Written.{listed_block}
use Rattle.ddt_plan_commands.proofs.SinkLemmas.{IsAsked, block_writer}
use Rattle.ddt_plan_commands.proofs.WriterLemmas.{given_front, taken_text, whole_front}
use Rattle.ddt_plan_commands.proofs.blocks_command.list_blocks.Goals as goal

pub returns-in_err-blocks-clause-front : goal.returns-in_err-blocks-clause-front
returns-in_err-blocks-clause-front g c =
    let lines = c.args.lines.now in
    let given = c.in_err-blocks.ensures in
    inr (
      _,
      (given.0, given.1, refl),
      given_front _ (λ s. g.W.Write.contents s.out) (listed_block lines.form lines.with_holes) (IsAsked lines.form lines.with_holes)
          (block_writer g.W.Write.contents lines.form lines.with_holes) given.0 lines c.blocks-2.new.sink (Err c.in_err-blocks.field-0.0) (refl, refl) given.2,
    )

pub returns-clause-whole : goal.returns-clause-whole
returns-clause-whole g c =
    let lines = c.args.lines.now in
    let given = c.in_ok-blocks.ensures in (
      _,
      (given.0, given.1, refl),
      taken_text _ (λ s. g.W.Write.contents s.out) (listed_block lines.form lines.with_holes) (IsAsked lines.form lines.with_holes)
          (block_writer g.W.Write.contents lines.form lines.with_holes) given.0 lines c.blocks-2.new.sink (refl, refl) given.2,
    )

pub returns-clause-front : goal.returns-clause-front
returns-clause-front g c =
    let lines = c.args.lines.now in
    let given = c.in_ok-blocks.ensures in
    inr (
      _,
      (given.0, given.1, refl),
      whole_front _ _ _ (taken_text _ (λ s. g.W.Write.contents s.out) (listed_block lines.form lines.with_holes) (IsAsked lines.form lines.with_holes)
          (block_writer g.W.Write.contents lines.form lines.with_holes) given.0 lines c.blocks-2.new.sink (refl, refl) given.2),
    )
