use Rattle.std.proofs.Common.{◌≡◌, ℕ, List, take, map}
use Rattle.ddt_map_server.specs.declared.keys.site_key.SiteKey.{SiteKey}
use Rattle.ddt_map_server.specs.Keys.KeyedSites.{keyed}
use Rattle.ddt_map_server.specs.Keys.Keyrings.{ring_of}
use Rattle.ddt_map_server.proofs.keys.sites_with_keys.keyed.Given as goal

abbrev pub invariant-loop-site : goal.invariant-loop-site
invariant-loop-site l = (keys : List SiteKey) (prefixes : List (List ℕ)) → l.keyrings ≡ map (ring_of keys) prefixes
    → l.keyed.items ≡ keyed keys (take l.site-index l.sites)
