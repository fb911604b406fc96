use Rattle.std.specs.Ordering.{nat_cmp}
use Rattle.std.specs.BTreeSet.{contains}
use Rattle.ddt_organisations.proofs.MeetingLemmas.{AreSeamsSoFar}
use Rattle.ddt_organisations.proofs.faults.push_seams.Given as goal

abbrev pub invariant-loop-other : goal.invariant-loop-other
invariant-loop-other l =
    AreSeamsSoFar l.all l.number (contains nat_cmp l.others) l.initial.faults.items l.other-iterator l.faults.items
