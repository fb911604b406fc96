use Rattle.std.proofs.Common.{◌≡◌, List, sym, ap, ◌∙◌, arith, add-one}
use Rattle.std.specs.Prelude.{nat_lt, length}
use Rattle.std.specs.List.{list_any}
use Rattle.ddt_register.specs.declared.group.Group.{Group}
use Rattle.ddt_check.specs.Columns.{is_met}
use Rattle.ddt_check.proofs.LeastLemmas.{least_both}
use Rattle.ddt_check.proofs.WrongLemmas.{wrong_upto, least_wrong, within_8, within_none}
use Rattle.ddt_check.proofs.rules.locators.wrong_by_cells.Goals as goal

pub loop-column-preserved : goal.loop-column-preserved
loop-column-preserved c =
    let k = c.loop-column.column in
    record {
      same = c.sort_column.ensures.length;
      rows = λ r same.
          rw (add-one k, c.lower_of-least.ensures) (least_both (wrong_upto r k) (is_met r k) c.loop-column.least
          c.shared.result (c.loop-column.invariant.rows r same) (c.shared.ensures r same));
    }

pub returns-then-not-has_column : goal.returns-then-not-has_column
returns-then-not-has_column c = λ r same.
    let k = c.loop-column.column in
    let longer = λ (g : Group). nat_lt k (length g.locators) in
    let none : _ = ap (λ (gs : List Group). list_any longer gs) same ∙ sym c.has_column.ensures
    ∙ c.if-not-has_column.true in
    least_wrong r k (within_none r k none) c.loop-column.least (c.loop-column.invariant.rows r same)

pub returns : goal.returns
returns c = λ r same.
    let up = c.loop-column.auto.column-end in
    let down = c.loop-column-test.false in
    let all : c.loop-column.column ≡ 8 = omega arith in
    least_wrong r 8 (within_8 r) c.loop-column.least (rw all at (c.loop-column.invariant.rows r same))
