use Rattle.std.proofs.Common.{◌≡◌, map, take}
use Rattle.ddt_compile.specs.GroupConfig.{child_of}
use Rattle.ddt_compile.proofs.children.children_of_zone.Given as goal

abbrev pub invariant-loop-delegated : goal.invariant-loop-delegated
invariant-loop-delegated l = l.children.items ≡ map (child_of l.accepted) (take l.delegated-index l.delegated-items)
