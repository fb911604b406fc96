use Rattle.std.proofs.Common.{◌≡◌, List, map, true, take, IsPermutation}
use Rattle.ddt_register.specs.Rows.{rise}
use Rattle.ddt_check.specs.Rules.{IsLeastRow, item_at, is_duplicate}
use Rattle.ddt_check.proofs.rules.duplicates.duplicate.Given as goal

abbrev pub invariant-loop-at : goal.invariant-loop-at
invariant-loop-at g l = (all : List _) → rise 0 (map g.T.Item.row_of all) ≡ true → IsPermutation all (map (λ e. e.item.now) l.entries)
    → IsLeastRow (item_at g.T.Item.row_of (is_duplicate g.T.Keyed.key g.T.Item.row_of all) (take l.at (map (λ e. e.item.now) l.entries))) l.least
