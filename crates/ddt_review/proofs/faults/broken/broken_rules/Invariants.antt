use Rattle.ddt_review.proofs.FaultsLemmas.ListLemmas.{AreToldBelow}
use Rattle.ddt_review.proofs.faults.broken.broken_rules.Given as goal

abbrev pub invariant-loop-row : goal.invariant-loop-row
invariant-loop-row l = AreToldBelow l.register l.row l.list.items
