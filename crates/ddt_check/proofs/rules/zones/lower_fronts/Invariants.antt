use Rattle.ddt_check.proofs.FrontLemmas.{AreParted}
use Rattle.ddt_check.proofs.rules.zones.lower_fronts.Given as goal

abbrev pub invariant-loop-size : goal.invariant-loop-size
invariant-loop-size l = AreParted l.groups l.front l.base l.size

abbrev pub decreases-loop-size : goal.decreases-loop-size
decreases-loop-size l = l.size
