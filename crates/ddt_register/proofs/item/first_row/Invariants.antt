use Rattle.std.proofs.Common.{◌≡◌, Bool, drop}
use Rattle.ddt_path.specs.Matching.{AnswersAs}
use Rattle.ddt_register.specs.Rows.{first_row}
use Rattle.ddt_register.proofs.item.first_row.Given as goal

abbrev pub invariant-loop-item : goal.invariant-loop-item
invariant-loop-item g l = (passes : _ → Bool) → AnswersAs g.F.Fn l.test passes →
    first_row g.T.Item.row_of passes (drop l.item-index l.items) ≡ first_row g.T.Item.row_of passes l.items
