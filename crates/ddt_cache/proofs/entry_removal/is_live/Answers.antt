use Rattle.std.proofs.Common.{rules}
use Rattle.std.specs.Option.{option_copied}
use Rattle.ddt_cache.specs.laws.Known.{live_key}
use Rattle.ddt_cache.proofs.entry_removal.is_live.Goals as goal

pub returns-in-Some : goal.returns-in-Some
returns-in-Some g c =
    search (rules, c.in-Some.is, live_key c.args.time (g.M.PrefixMap.content c.args.entries.now) c.args.prefix (option_copied c.get.result) c.get.ensures)

pub returns-in-None : goal.returns-in-None
returns-in-None g c =
    search (rules, c.in-None.is, live_key c.args.time (g.M.PrefixMap.content c.args.entries.now) c.args.prefix (option_copied c.get.result) c.get.ensures)
