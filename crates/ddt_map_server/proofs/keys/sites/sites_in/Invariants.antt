use Rattle.std.proofs.Common.{◌≡◌, take}
use Rattle.ddt_map_server.specs.Keys.KeyedSites.{sites_in}
use Rattle.ddt_map_server.proofs.keys.sites.sites_in.Given as goal

abbrev pub invariant-loop-authority : goal.invariant-loop-authority
invariant-loop-authority l = l.sites.items ≡ sites_in (take l.authority-index l.authorities)
