use Rattle.std.proofs.Common.{◌≡◌, true, take}
use Rattle.std.specs.List.{list_all}
use Rattle.ddt_register.proofs.item.items_in_range.Given as goal

abbrev pub invariant-loop-item : goal.invariant-loop-item
invariant-loop-item g l = list_all g.T.Item.is_in_range (take l.item-index l.items) ≡ true
