use Rattle.std.proofs.Common.{◌≡◌, ◌++◌, ◌+◌, ◌≤◌, Bool, true, length, map, take}
use Rattle.std.specs.List.{filter}
use Rattle.ddt_path.specs.Matching.{AnswersAs}
use Rattle.ddt_register.specs.Rows.{most_rows}
use Rattle.ddt_organisations.specs.Seam.Joined.{numbered}
use Rattle.ddt_organisations.proofs.seam.joined.appended.Given as goal

abbrev pub invariant-loop-item : goal.invariant-loop-item
invariant-loop-item g l = ((passes : _ → Bool) → AnswersAs g.F.Fn l.test passes
    → map g.T.Row.text l.all.items
    ≡ map g.T.Row.text l.initial.all.items ++ map g.T.Row.text (filter passes (take l.item-index l.items)))
    × (l.before + length l.all.items ≤ most_rows → numbered l.before (map g.T.Item.row_of l.initial.all.items) ≡ true
    → numbered l.before (map g.T.Item.row_of l.all.items) ≡ true)
    × (length l.initial.all.items ≤ length l.all.items)
