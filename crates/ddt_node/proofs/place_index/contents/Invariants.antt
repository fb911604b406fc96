use Rattle.std.proofs.Common.{◌≡◌, map, take}
use Rattle.ddt_node.specs.Places.{places_in}
use Rattle.ddt_node.proofs.place_index.contents.Given as goal

abbrev pub invariant-loop-authority : goal.invariant-loop-authority
invariant-loop-authority g l = map g.M.PrefixMap.content l.contents.items ≡ map places_in (take l.authority-index l.authorities)
