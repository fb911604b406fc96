use Rattle.std.proofs.Common.{◌≡◌}
use Rattle.ddt_node.proofs.PlaceLemmas.{places_from}
use Rattle.ddt_node.proofs.place_index.places.Given as goal

abbrev pub invariant-loop-at : goal.invariant-loop-at
invariant-loop-at g l = g.M.PrefixMap.content l.places ≡ places_from g.T.Prefixed.path l.items l.at
