use Rattle.std.proofs.Common.{◌≡◌, take, map}
use Rattle.ddt_config.proofs.neighbours.sorted_prefixes.Given as goal

abbrev pub invariant-loop-item : goal.invariant-loop-item
invariant-loop-item g l = l.prefixes.items ≡ map g.T.Prefixed.path (take l.item-index l.items)
