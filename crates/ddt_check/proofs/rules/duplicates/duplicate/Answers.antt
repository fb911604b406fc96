use Rattle.std.proofs.Common.{◌∙◌, map, sym, ap, refl, true, false, Some}
use Rattle.ddt_check.specs.declared.entries.SortEntry.{SortEntry}
use Rattle.ddt_check.specs.Rules.{is_duplicate}
use Rattle.ddt_check.proofs.EntryLemmas.{item_is, inside_items, past_items, item_there}
use Rattle.ddt_check.proofs.LeastLemmas.{passes_at, least_if, least_of_all}
use Rattle.ddt_check.proofs.rules.duplicates.duplicate.Goals as goal
use Rattle.ddt_check.proofs.rules.duplicates.duplicate.Goals.{then-repeats, else-repeats}

pub loop-at-preserved : goal.loop-at-preserved
loop-at-preserved g c = λ all rises moved.
    let row = g.T.Item.row_of in
    let repeated = is_duplicate g.T.Keyed.key row all in
    let item = λ (e : SortEntry g.row.T.Denot g.T.Keyed g.T.Item). e.item.now in
    let entries = c.args.entries.now in
    let items = map item entries in
    let i = c.loop-at.at in
    let lt = inside_items item entries i c.loop-at-test.true in
    let so_far = c.loop-at.invariant all rises moved in
    elim c.if-repeats.branch [
      | then-repeats w ↦
          let x = w.index-entries-at.result in
          let is = item_is item entries i x (item x) c.loop-at-test.true w.index-entries-at.is in
          rw w.least-is (least_if row repeated items i (item x) c.loop-at.least (Some w.lower.result) true lt is
          (rw (← is) at (sym w.if-repeats.true ∙ c.repeats.ensures all (item x) rises moved))
          (ap Some (rw (w.row.ensures, ← w.index-entries-at.is) at w.lower.ensures)) so_far)
      | else-repeats w ↦
          let x = item_there items i lt in
          rw w.least-is (least_if row repeated items i x.0 c.loop-at.least c.loop-at.least false lt x.1
          (rw (← x.1) at (sym w.if-repeats.false ∙ c.repeats.ensures all x.0 rises moved)) refl so_far)
    ]

pub returns : goal.returns
returns g c = λ all rises moved.
    let row = g.T.Item.row_of in
    let item = λ (e : SortEntry g.row.T.Denot g.T.Keyed g.T.Item). e.item.now in
    let entries = c.args.entries.now in
    least_of_all (passes_at row (is_duplicate g.T.Keyed.key row all)) all (map item entries) c.loop-at.at c.loop-at.least
    moved (past_items item entries c.loop-at.at c.loop-at-test.false) (c.loop-at.invariant all rises moved)
