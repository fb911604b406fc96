use Rattle.ddt_check.proofs.MarkLemmas.{AreMarkedTo}
use Rattle.ddt_check.proofs.rules.locators.mark_column.Given as goal

abbrev pub invariant-loop-cell : goal.invariant-loop-cell
invariant-loop-cell l = AreMarkedTo l.marks l.cells l.cell-index
