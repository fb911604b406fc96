use Rattle.ddt_organisations.proofs.PairLemmas.{AreSeamsBelow}
use Rattle.ddt_organisations.proofs.seam_pairs.seams.Given as goal

abbrev pub invariant-loop-number : goal.invariant-loop-number
invariant-loop-number l = AreSeamsBelow l.all l.number l.pairs.items
