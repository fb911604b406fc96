use Rattle.std.proofs.Common.{map, ◌∙◌, arith}
use Rattle.std.proofs.lemmas.List.{length-map, map-set, length-set, get_or_default}
use Rattle.ddt_check.specs.declared.entries.SortEntry.{SortEntry}
use Rattle.ddt_check.proofs.EntryLemmas.{one_more_written}
use Rattle.ddt_check.proofs.entries.write_entries.Goals as goal

pub loop-at-preserved : goal.loop-at-preserved
loop-at-preserved g c =
    let xs = c.loop-at.entries in
    let i = c.loop-at.at in
    let items = c.args.items.now in
    let item = λ (e : SortEntry g.row.T.Denot g.T.Keyed g.T.Item). e.item.now in
    let x = item c.of.result in
    let long = length-map xs item in
    let lt = c.loop-at-test.true in
    let n = c.loop-at.auto.entries in
    let m = c.requires in
    let same = c.loop-at.invariant.same in
    record {
      same = length-set xs i c.of.result ∙ same;
      written = rw (map-set item xs i c.of.result) (one_more_written items (map item xs) i x (omega arith) (omega arith)
          (c.of.ensures ∙ c.index-items-at.is ∙ get_or_default items i c.index-items-at.result x (omega arith))
          c.loop-at.invariant.written);
    }
