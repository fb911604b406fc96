use Rattle.std.proofs.Common.{rules}
use Rattle.ddt_cache.specs.laws.Live.{retained_live}
use Rattle.ddt_cache.specs.laws.Ends.{all_live, noted_passed}
use Rattle.ddt_cache.proofs.entry_removal.drop_unlisted.Goals as goal

pub returns-then-unlisted_end_after-clause-live : goal.returns-then-unlisted_end_after-clause-live
returns-then-unlisted_end_after-clause-live g c =
    all_live c.args.ends.now c.args.time (g.M.PrefixMap.content c.args.entries.now) c.requires.unlisted c.if-unlisted_end_after.ensures c.requires.noted

pub returns-clause-live : goal.returns-clause-live
returns-clause-live g c =
    retained_live _ c.args.time (g.M.PrefixMap.content c.args.entries.now) (g.M.PrefixMap.content c.retain.new.self) (λ e b h. search rules) c.retain.ensures

pub returns-clause-noted : goal.returns-clause-noted
returns-clause-noted g c =
    noted_passed c.args.ends.now c.pass_unlisted.new.self c.args.time (g.M.PrefixMap.content c.args.entries.now) (g.M.PrefixMap.content c.retain.new.self)
    (retained_live _ c.args.time (g.M.PrefixMap.content c.args.entries.now) (g.M.PrefixMap.content c.retain.new.self) (λ e b h. search rules) c.retain.ensures)
    c.pass_unlisted.ensures c.requires.noted
