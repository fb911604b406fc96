use Rattle.std.proofs.Common.{◌-◌, length}
use Rattle.ddt_register.specs.declared.register.Register.{Register}
use Rattle.ddt_compile.specs.Sorted.{AreSortedOf}
use Rattle.ddt_compile.proofs.SortedLemmas.{IsWalk}
use Rattle.ddt_compile.proofs.sorted_zones.directly_below.Given as goal

abbrev pub invariant-loop-at : goal.invariant-loop-at
invariant-loop-at l = (r : Register) → AreSortedOf r l.sorted → IsWalk r l.zone l.sorted l.at l.found.items

abbrev pub decreases-loop-at : goal.decreases-loop-at
decreases-loop-at l = length l.sorted - l.at
