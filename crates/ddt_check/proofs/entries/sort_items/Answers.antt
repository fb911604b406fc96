use Rattle.std.proofs.lemmas.List.Sorted.{IsPermutation-map}
use Rattle.ddt_check.specs.declared.entries.SortEntry.{SortEntry}
use Rattle.ddt_check.proofs.entries.sort_items.Goals as goal

pub returns-clause-moved : goal.returns-clause-moved
returns-clause-moved g c =
    let item = λ (e : SortEntry g.row.T.Denot g.T.Keyed g.T.Item). e.item.now in
    rw c.write_entries.ensures at
    (IsPermutation-map item c.write_entries.new.entries c.sort_entries.new.entries c.sort_entries.ensures.moved)
