use Rattle.std.proofs.Common.{inr}
use Rattle.ddt_cache.specs.laws.Ends.{noted_removed}
use Rattle.ddt_cache.proofs.entry_removal.drop_entry.Goals as goal

pub returns-in_err-entry-clause-noted : goal.returns-in_err-entry-clause-noted
returns-in_err-entry-clause-noted g c =
    noted_removed c.args.ends.now c.args.ends.now (g.M.PrefixMap.content c.args.entries.now) (g.M.PrefixMap.content c.remove.new.self) c.args.prefix 0
    c.remove.ensures.removed (λ q k h. inr h) c.requires.noted

pub returns-clause-noted : goal.returns-clause-noted
returns-clause-noted g c =
    noted_removed c.args.ends.now c.strike.new.self (g.M.PrefixMap.content c.args.entries.now) (g.M.PrefixMap.content c.remove.new.self) c.args.prefix
    c.in_ok-entry.entry.end c.remove.ensures.removed c.strike.ensures.others c.requires.noted
