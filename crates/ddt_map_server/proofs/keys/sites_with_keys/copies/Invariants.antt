use Rattle.std.proofs.Common.{◌≡◌, take, map}
use Rattle.ddt_map_server.proofs.keys.sites_with_keys.copies.Given as goal

abbrev pub invariant-loop-key : goal.invariant-loop-key
invariant-loop-key l = l.copies.items ≡ map (λ k. k.key) (take l.key-index l.keys)
