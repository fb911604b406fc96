use Rattle.std.proofs.Common.{rules, sym, ◌∙◌}
use Rattle.std.proofs.lemmas.Bool.{eq-eqb, ne_eqb}
use Rattle.std.proofs.lemmas.List.Sorted.{IsPartitionPoint-from_clause}
use Rattle.ddt_path.specs.laws.Member.{in_at}
use Rattle.ddt_review.proofs.FaultsLemmas.RowLemmas.{is_low, low_parted, found_here, none_at, none_past}
use Rattle.ddt_review.proofs.faults.items_in_row.item_in_row.Goals as goal
use Rattle.ddt_review.proofs.faults.items_in_row.item_in_row.Goals.{then-at-items+else-row, else-at-items}

pub returns-then-row : goal.returns-then-row
returns-then-row g c =
    let row = g.T.Item.row_of in
    let w = c.index-items-at.result in
    sym (found_here row c.args.items.now c.requires c.args.row w
    (in_at c.args.items.now c.partition_point-at.result w c.if-at-items.true c.index-items-at.is)
    (eq-eqb (row w) c.args.row (sym c.row.ensures ∙ c.if-row.true)))

pub returns : goal.returns
returns g c =
    let row = g.T.Item.row_of in
    let xs = c.args.items.now in
    let n = c.args.row in
    let at = c.partition_point-at.result in
    let point = IsPartitionPoint-from_clause (is_low row xs c.requires n) xs at
    c.partition_point-at.ensures.partitioned (low_parted row xs c.requires n) (λ a r q k. search rules) in
    elim c.if-at-items.branch [
      | then-at-items+else-row w ↦
          let x = w.index-items-at.result in
          sym (none_at row xs c.requires n at point x w.if-at-items.true w.index-items-at.is
          (ne_eqb (row x) n (λ e. w.if-row.false (w.row.ensures ∙ e))))
      | else-at-items w ↦ sym (none_past row xs c.requires n at point w.if-at-items.false)
    ]
