use Rattle.std.proofs.Common.{◌≡◌, ◌≤◌}
use Rattle.std.specs.FinMap as map
use Rattle.ddt_cache.specs.Live.{live_at}
use Rattle.ddt_cache.specs.Ends.{AreNoted}
use Rattle.ddt_cache.proofs.longest_live_match.drop_ended_over.Given as goal

abbrev pub invariant-loop-prefix : goal.invariant-loop-prefix
invariant-loop-prefix g l =
    record {
      noted : AreNoted l.ends (g.M.PrefixMap.content l.entries);
      same : live_at l.time (g.M.PrefixMap.content l.entries) ≡ live_at l.time (g.M.PrefixMap.content l.fn.entries);
      fewer : map.len (g.M.PrefixMap.content l.entries) ≤ map.len (g.M.PrefixMap.content l.fn.entries);
    }

abbrev pub decreases-loop-prefix : goal.decreases-loop-prefix
decreases-loop-prefix g l = map.len (g.M.PrefixMap.content l.entries)
