use Rattle.std.proofs.Common.{◌≡◌, ◌+◌, ◌-◌, ◌<◌, length, map, sym, ◌∙◌, arith}
use Rattle.ddt_register.specs.laws.RowOrder.{rising_from_rise}
use Rattle.ddt_check.specs.declared.entries.SortEntry.{SortEntry}
use Rattle.ddt_check.specs.laws.Order.{duplicate-beside, duplicate-first}
use Rattle.ddt_check.proofs.EntryLemmas.{inside_items, item_is}
use Rattle.ddt_check.proofs.rules.duplicates.repeats.Goals as goal

pub returns-then-at-eq0 : goal.returns-then-at-eq0
returns-then-at-eq0 g c = λ all d rises moved.
    let key = g.T.Keyed.key in
    let row = g.T.Item.row_of in
    let item = λ (e : SortEntry g.row.T.Denot g.T.Keyed g.T.Item). e.item.now in
    let items = map item c.args.entries.now in
    let zero : c.args.at ≡ 0 = c.if-at-eq0.true in
    let lt : c.args.at < length items = inside_items item c.args.entries.now c.args.at c.requires.inside in
    rw zero (sym (duplicate-first key row items c.requires.sorted all (rising_from_rise row all 0 rises) moved d (omega arith)))

pub returns : goal.returns
returns g c = λ all d rises moved.
    let key = g.T.Keyed.key in
    let row = g.T.Item.row_of in
    let item = λ (e : SortEntry g.row.T.Denot g.T.Keyed g.T.Item). e.item.now in
    let entries = c.args.entries.now in
    let items = map item entries in
    let at : c.args.at < length entries = c.requires.inside in
    let lt : c.args.at < length items = inside_items item entries c.args.at at in
    let up : c.args.at ≡ c.args.at - 1 + 1 = let ne = c.if-at-eq0.false in omega arith in
    let x = c.index-entries-at.result in
    let y = c.index-entries-at-2.result in
    c.is_same.ensures
    ∙ rw (
      item_is item entries (c.args.at - 1) x d (omega arith) c.index-entries-at.is,
      item_is item entries c.args.at y d at c.index-entries-at-2.is,
    )
    (rw (← up) at (duplicate-beside key row items c.requires.sorted all (rising_from_rise row all 0 rises) moved
    (c.args.at - 1) d (omega arith)))
