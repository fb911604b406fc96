use Rattle.std.proofs.Common.{rules}
use Rattle.ddt_path.specs.Path.{xeid_path}
use Rattle.ddt_cache.specs.laws.Live.{only_longest}
use Rattle.ddt_cache.proofs.longest_live_match.ended_over.Goals as goal

pub returns-else-entry-time-clause-none : goal.returns-else-entry-time-clause-none
returns-else-entry-time-clause-none g c p e h =
    only_longest c.args.time (g.M.PrefixMap.content c.args.entries.now) (xeid_path c.args.x) c.in-Some.prefix p c.in-Some.entry.now e
    c.in-Some.ensures.longest h (search (rules, c.if-entry-time.false))
