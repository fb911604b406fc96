use Rattle.std.proofs.Common.{map, ◌∙◌, arith}
use Rattle.std.proofs.lemmas.List.{length-map, length-set}
use Rattle.ddt_check.specs.Columns.{cell_of}
use Rattle.ddt_check.proofs.EntryLemmas.{one_more_written, item_is}
use Rattle.ddt_check.proofs.rules.locators.write_column.Goals as goal

pub loop-at-preserved : goal.loop-at-preserved
loop-at-preserved c =
    let xs = c.loop-at.cells in
    let groups = c.args.groups.now in
    let f = cell_of c.args.column in
    let n = length-map groups f in
    let kept = c.loop-at.auto.cells in
    let lt = c.loop-at-test.true in
    let same = c.loop-at.invariant.same in
    let i = c.loop-at.at in
    let g = c.index-groups-at.result in
    record {
      same = length-set xs i c.of.result ∙ same;
      written = rw c.of.ensures (one_more_written (map f groups) xs i (f g) (omega arith) (omega arith)
          (item_is f groups i g (f g) (omega arith) c.index-groups-at.is) c.loop-at.invariant.written);
    }
