use Rattle.ddt_config.proofs.OrderLemmas.{in_order}
use Rattle.ddt_config.proofs.neighbours.sorted_prefixes.Goals as goal

pub returns-then-is_sorted-clause-sorted : goal.returns-then-is_sorted-clause-sorted
returns-then-is_sorted-clause-sorted g c =
    in_order c.loop-item.prefixes.items (rw c.deref.ensures.value at c.if-is_sorted.ensures.cases)
