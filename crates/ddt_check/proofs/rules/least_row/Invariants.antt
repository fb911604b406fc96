use Rattle.std.proofs.Common.{Bool, take}
use Rattle.ddt_path.specs.Matching.{AnswersAs}
use Rattle.ddt_check.specs.Rules.{IsLeastRow, item_at}
use Rattle.ddt_check.proofs.rules.least_row.Given as goal

abbrev pub invariant-loop-item : goal.invariant-loop-item
invariant-loop-item g l = (passes : _ → Bool) → AnswersAs g.F.Fn l.test passes
    → IsLeastRow (item_at g.T.Item.row_of passes (take l.item-index l.items)) l.least
