use Rattle.std.proofs.Common.{◌≡◌, ◌≤◌, length}
use Rattle.std.specs.FinMap as map
use Rattle.ddt_cache.specs.Live.{live_at}
use Rattle.ddt_cache.specs.Ends.{AreNoted}
use Rattle.ddt_cache.proofs.entry_removal.drop_ended.Given as goal

abbrev pub invariant-loop-ends : goal.invariant-loop-ends
invariant-loop-ends g l =
    record {
      noted : AreNoted l.ends (g.M.PrefixMap.content l.entries);
      same : live_at l.time (g.M.PrefixMap.content l.entries) ≡ live_at l.time (g.M.PrefixMap.content l.fn.entries);
      fewer : map.len (g.M.PrefixMap.content l.entries) ≤ map.len (g.M.PrefixMap.content l.fn.entries);
    }

abbrev pub decreases-loop-ends : goal.decreases-loop-ends
decreases-loop-ends g l = length l.ends.listed.keys
