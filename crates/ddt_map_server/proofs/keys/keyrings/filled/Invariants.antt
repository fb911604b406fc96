use Rattle.std.proofs.Common.{◌≡◌, [], take, drop, map}
use Rattle.ddt_map_server.specs.Keys.KeyedSites.{judged_after}
use Rattle.ddt_map_server.specs.Keys.Keyrings.{ring_of}
use Rattle.ddt_map_server.proofs.keys.keyrings.filled.Given as goal

abbrev pub invariant-loop-key : goal.invariant-loop-key
invariant-loop-key l = record {
  filled : l.keyrings.items ≡ map (ring_of (take l.key-index l.keys)) l.prefixes;
  judged : judged_after l.prefixes [] l.keys ≡ judged_after l.prefixes (take l.key-index l.keys) (drop l.key-index l.keys);
}
