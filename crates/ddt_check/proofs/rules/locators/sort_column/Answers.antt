use Rattle.std.proofs.Common.{rules}
use Rattle.std.proofs.lemmas.Fn.{always_returns_same}
use Rattle.ddt_check.specs.declared.rules.locators.Cell.{Cell}
use Rattle.ddt_check.specs.Columns.{cell_pair}
use Rattle.ddt_check.proofs.ColumnLemmas.{in_order_by_pairs}
use Rattle.ddt_check.proofs.rules.locators.sort_column.Goals as goal

pub returns-clause-sorted : goal.returns-clause-sorted
returns-clause-sorted c =
    in_order_by_pairs cell_pair (λ (x : Cell). x.row) _
    (c.sort_unstable_by_key.ensures.sorted (λ (x : Cell). (cell_pair x, x.row))
    (always_returns_same _ _ _ (λ a r g h. search rules)))
