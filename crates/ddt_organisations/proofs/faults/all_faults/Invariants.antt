use Rattle.ddt_organisations.proofs.ToldLemmas.{AreToldBelow}
use Rattle.ddt_organisations.proofs.faults.all_faults.Given as goal

abbrev pub invariant-loop-number : goal.invariant-loop-number
invariant-loop-number l = AreToldBelow l.all l.number l.faults.items
