use Rattle.std.proofs.Common.{◌<◌, List, drop, map, sym, ap, ◌∙◌, arith}
use Rattle.std.proofs.lemmas.List.{drop_all}
use Rattle.ddt_register.specs.Rows.{are_apart}
use Rattle.ddt_register.proofs.RowLemmas.{first_left, Rises-left, are_apart-lower, are_apart-higher, are_apart-equal, are_apart-nil}
use Rattle.ddt_register.proofs.row_order.are_apart.Goals as goal

pub returns-then-a-b : goal.returns-then-a-b
returns-then-a-b g c =
    let e = first_left g.A.Item.row_of c.args.first.now c.loop-i.i c.index-first-i.result c.row-a.result (omega arith) c.index-first-i.is c.row-a.ensures in
    let f = first_left g.B.Item.row_of c.args.second.now c.loop-i.k c.index-second-k.result c.row-b.result (omega arith) c.index-second-k.is c.row-b.ensures in
    are_apart-equal _ _ c.row-a.result c.row-b.result _ _ e f c.if-a-b.true ∙ c.loop-i.invariant.same

pub loop-i-preserved-then-a-b-2 : goal.loop-i-preserved-then-a-b-2
loop-i-preserved-then-a-b-2 g c =
    let e = first_left g.A.Item.row_of c.args.first.now c.loop-i.i c.index-first-i.result c.row-a.result (omega arith) c.index-first-i.is c.row-a.ensures in
    let f = first_left g.B.Item.row_of c.args.second.now c.loop-i.k c.index-second-k.result c.row-b.result (omega arith) c.index-second-k.is c.row-b.ensures in
    record {
      same = sym (are_apart-lower _ _ c.row-a.result c.row-b.result _ _ e f c.if-a-b-2.true c.loop-i.invariant.others_rise) ∙ c.loop-i.invariant.same;
      rows_rise = Rises-left _ _ c.row-a.result e c.loop-i.invariant.rows_rise;
      others_rise = c.loop-i.invariant.others_rise;
    }

pub loop-i-preserved : goal.loop-i-preserved
loop-i-preserved g c =
    let e = first_left g.A.Item.row_of c.args.first.now c.loop-i.i c.index-first-i.result c.row-a.result (omega arith) c.index-first-i.is c.row-a.ensures in
    let f = first_left g.B.Item.row_of c.args.second.now c.loop-i.k c.index-second-k.result c.row-b.result (omega arith) c.index-second-k.is c.row-b.ensures in
    let lt : c.row-b.result < c.row-a.result = omega arith in
    record {
      same = sym (are_apart-higher _ _ c.row-a.result c.row-b.result _ _ e f lt c.loop-i.invariant.rows_rise) ∙ c.loop-i.invariant.same;
      rows_rise = c.loop-i.invariant.rows_rise;
      others_rise = Rises-left _ _ c.row-b.result f c.loop-i.invariant.others_rise;
    }

pub returns-else-k-second : goal.returns-else-k-second
returns-else-k-second g c =
    sym (ap (λ (r : List _). are_apart (map g.A.Item.row_of (drop c.loop-i.i c.args.first.now)) (map g.B.Item.row_of r)) (drop_all c.loop-i.k c.args.second.now c.if-k-second.false) ∙ are_apart-nil (map g.A.Item.row_of (drop c.loop-i.i c.args.first.now))) ∙ c.loop-i.invariant.same
