use Rattle.std.proofs.Common.{◌≡◌, ◌+◌, ◌-◌, drop, map, length}
use Rattle.ddt_register.specs.Rows.{are_apart}
use Rattle.ddt_register.proofs.RowLemmas.{Rises}
use Rattle.ddt_register.proofs.row_order.are_apart.Given as goal

abbrev pub invariant-loop-i : goal.invariant-loop-i
invariant-loop-i g l =
    let rows = map g.A.Item.row_of (drop l.i l.first) in
    let others = map g.B.Item.row_of (drop l.k l.second) in
    record {
      same : are_apart rows others ≡ are_apart (map g.A.Item.row_of l.first) (map g.B.Item.row_of l.second);
      rows_rise : Rises rows;
      others_rise : Rises others;
    }

abbrev pub decreases-loop-i : goal.decreases-loop-i
decreases-loop-i g l = (length l.first + length l.second) - (l.i + l.k)
