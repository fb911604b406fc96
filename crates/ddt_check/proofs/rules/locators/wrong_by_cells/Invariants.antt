use Rattle.std.proofs.Common.{◌≡◌, length}
use Rattle.ddt_register.specs.declared.register.Register.{Register}
use Rattle.ddt_check.specs.Rules.{IsLeastRow}
use Rattle.ddt_check.proofs.WrongLemmas.{wrong_upto}
use Rattle.ddt_check.proofs.rules.locators.wrong_by_cells.Given as goal

abbrev pub invariant-loop-column : goal.invariant-loop-column
invariant-loop-column l = record {
  same : length l.cells ≡ length l.groups;
  rows : (r : Register) → r.groups ≡ l.groups → IsLeastRow (wrong_upto r l.column) l.least;
}
