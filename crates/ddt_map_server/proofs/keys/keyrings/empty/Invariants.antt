use Rattle.std.proofs.Common.{◌≡◌, [], take, map}
use Rattle.ddt_map_server.specs.Keys.Keyrings.{ring_of}
use Rattle.ddt_map_server.proofs.keys.keyrings.empty.Given as goal

abbrev pub invariant-loop-prefix : goal.invariant-loop-prefix
invariant-loop-prefix l = l.keyrings.items ≡ map (ring_of []) (take l.prefix-index l.prefixes)
