use Rattle.std.proofs.Common.{◌≡◌, take, map}
use Rattle.ddt_map_server.proofs.keys.sites.sorted_prefixes.Given as goal

abbrev pub invariant-loop-site : goal.invariant-loop-site
invariant-loop-site l = l.prefixes.items ≡ map (λ s. s.prefix) (take l.site-index l.sites)
