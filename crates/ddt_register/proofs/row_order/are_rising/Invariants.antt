use Rattle.std.proofs.Common.{◌≡◌, drop, map}
use Rattle.ddt_register.specs.Rows.{rise}
use Rattle.ddt_register.proofs.row_order.are_rising.Given as goal

abbrev pub invariant-loop-item : goal.invariant-loop-item
invariant-loop-item g l = rise l.last (map g.T.Item.row_of (drop l.item-index l.items)) ≡ rise 0 (map g.T.Item.row_of l.items)
