use Rattle.std.proofs.Common.{◌≡◌, ◌≤◌}
use Rattle.std.specs.FinMap as map
use Rattle.ddt_cache.specs.Live.{live_at}
use Rattle.ddt_cache.specs.Ends.{AreNoted}
use Rattle.ddt_cache.proofs.longest_live_match.longest_live_over.Given as goal

abbrev pub invariant-loop-found : goal.invariant-loop-found
invariant-loop-found g l =
    record {
      noted : AreNoted l.ends (g.M.PrefixMap.content l.entries);
      same : live_at l.time (g.M.PrefixMap.content l.entries) ≡ live_at l.time (g.M.PrefixMap.content l.fn.entries);
      fewer : map.len (g.M.PrefixMap.content l.entries) ≤ map.len (g.M.PrefixMap.content l.fn.entries);
    }

abbrev pub decreases-loop-found : goal.decreases-loop-found
decreases-loop-found g l = map.len (g.M.PrefixMap.content l.entries)
