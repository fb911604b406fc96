use Rattle.std.proofs.Common.{ap, arith}
use Rattle.std.specs.FinMap.{len}
use Rattle.ddt_node.proofs.PlaceLemmas.{len-places_from}
use Rattle.ddt_node.proofs.place_index.places.Goals as goal

pub insert-requires : goal.insert-requires
insert-requires g c = omega (arith, ap len c.loop-at.invariant, len-places_from g.T.Prefixed.path c.args.items.now c.loop-at.at)
