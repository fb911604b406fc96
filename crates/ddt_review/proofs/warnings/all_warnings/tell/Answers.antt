use Rattle.std.proofs.Common.{arith}
use Rattle.std.proofs.lemmas.Grind.{common_steps}
use Rattle.std.proofs.lemmas.List.Folds.{list_any_more}
use Rattle.ddt_review.proofs.warnings.all_warnings.tell.Goals as goal

pub loop-item-preserved : goal.loop-item-preserved
loop-item-preserved g c = record {
  each = λ kind row.
      let now = c.in_ok-tell_item.ensures.each kind row in
      let before = c.loop-item.invariant.each kind row in
      grind (arith, common_steps, list_any_more);
  named = λ h. c.in_ok-tell_item.ensures.named (c.loop-item.invariant.named h);
}
