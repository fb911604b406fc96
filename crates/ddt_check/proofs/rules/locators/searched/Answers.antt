use Rattle.std.proofs.Common.{rules, ◌≡◌, ℕ, get_or, map, Some, None, sym, ap, ◌∙◌, true, arith}
use Rattle.std.proofs.lemmas.List.Sorted.{IsPartitionPoint-from_clause}
use Rattle.std.proofs.lemmas.List.{get_or_default}
use Rattle.ddt_path.specs.Covers.{is_same_path}
use Rattle.ddt_check.specs.Columns.{cell_of, cell_key, locator_key, key_list}
use Rattle.ddt_check.proofs.NameLemmas.{is_below, parted, found_key, no_key}
use Rattle.ddt_check.proofs.ColumnLemmas.{empty, cell_row, cells_up, first_row_in}
use Rattle.ddt_check.proofs.rules.locators.searched.Goals as goal
use Rattle.ddt_check.proofs.rules.locators.searched.Goals.{else-at-cells-via-then-at-cells+else-has_key, else-at-cells-via-else-at-cells}

pub returns-then-has_key : goal.returns-then-has_key
returns-then-has_key c = λ r column moved.
    let xs = c.args.cells.now in
    let at = c.partition_point-at.result in
    let name = locator_key c.args.l in
    let zs = map (cell_of column) r.groups in
    let point = IsPartitionPoint-from_clause (is_below cell_key cell_row xs c.requires name) xs at
    c.partition_point-at.ensures.partitioned (parted cell_key cell_row xs c.requires name)
    (λ a r q k. search (rules, c.locator_pair-key.ensures)) in
    let x = get_or xs at empty in
    let e : is_same_path (cell_key x) name ≡ true =
    ap (λ (p : ℕ × ℕ). is_same_path (cell_key x) (key_list p)) (sym c.locator_pair-key.ensures) ∙ sym c.has_key.ensures
    ∙ c.if-has_key.true in
    first_row_in r column c.args.l (Some x)
    (found_key cell_key cell_row xs c.requires name zs (cells_up r column) moved at point empty c.if-at-cells.true e)

pub returns : goal.returns
returns c = λ r column moved.
    let xs = c.args.cells.now in
    let at = c.partition_point-at.result in
    let name = locator_key c.args.l in
    let zs = map (cell_of column) r.groups in
    let point = IsPartitionPoint-from_clause (is_below cell_key cell_row xs c.requires name) xs at
    c.partition_point-at.ensures.partitioned (parted cell_key cell_row xs c.requires name)
    (λ a r q k. search (rules, c.locator_pair-key.ensures)) in
    first_row_in r column c.args.l None (no_key cell_key cell_row xs c.requires name zs (cells_up r column) moved at point
    (λ d lt. elim c.else-at-cells.branch [
      | else-at-cells-via-then-at-cells+else-has_key w ↦ rw (get_or_default xs at d empty lt, ← c.locator_pair-key.ensures)
          (sym w.has_key.ensures ∙ w.if-has_key.false)
      | else-at-cells-via-else-at-cells w ↦ let past = w.if-at-cells.false in absurd (omega arith)
    ]))
