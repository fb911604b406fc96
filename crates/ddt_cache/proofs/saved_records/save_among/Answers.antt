use Rattle.std.proofs.Common.{rules}
use Rattle.std.proofs.lemmas.Bool.{false≢true}
use Rattle.ddt_cache.specs.Live.{live_at}
use Rattle.ddt_cache.specs.laws.Known.{stored_is, live_is_key, added_is}
use Rattle.ddt_cache.specs.laws.Size.{len_inserted}
use Rattle.ddt_cache.specs.laws.Ends.{noted_inserted}
use Rattle.ddt_cache.proofs.saved_records.save_among.Goals as goal

pub returns-in-Ok-clause-stored : goal.returns-in-Ok-clause-stored
returns-in-Ok-clause-stored g c =
    stored_is c.args.time (g.M.PrefixMap.content c.args.entries.now) (g.M.PrefixMap.content c.make_room.new.entries)
    (g.M.PrefixMap.content c.insert.new.self) c.args.referral.now c.entry_at-entry.result
    (search (rules, c.is_savable.ensures, c.if-not-is_savable.false)) (search (rules, c.make_room.ensures.room, c.if-not-make_room.false))
    c.make_room.ensures.live c.entry_at-entry.ensures c.in-Ok.ensures.inserted

pub returns-in-Ok-clause-bound : goal.returns-in-Ok-clause-bound
returns-in-Ok-clause-bound g c =
    len_inserted (g.M.PrefixMap.content c.make_room.new.entries) _ c.args.referral.now.prefix _ c.in-Ok.ensures.inserted
    (c.make_room.ensures.left (search (rules, c.if-not-make_room.false))) c.make_room.ensures.bound

pub returns-in-Err-clause-replaced : goal.returns-in-Err-clause-replaced
returns-in-Err-clause-replaced g c key =
    c.in-Err.ensures.replaced
    (live_is_key c.args.time (g.M.PrefixMap.content c.args.entries.now) (g.M.PrefixMap.content c.make_room.new.entries) c.args.referral.now.prefix
    c.make_room.ensures.live key)

pub returns-in-Err-clause-wanted : goal.returns-in-Err-clause-wanted
returns-in-Err-clause-wanted g c =
    added_is (live_at c.args.time (g.M.PrefixMap.content c.args.entries.now)) c.args.referral.now
    (search (rules, c.is_savable.ensures, c.if-not-is_savable.false)) (search (rules, c.make_room.ensures.room, c.if-not-make_room.false))
    (λ key. false≢true (c.in-Err.ensures.replaced (live_is_key c.args.time (g.M.PrefixMap.content c.args.entries.now)
    (g.M.PrefixMap.content c.make_room.new.entries) c.args.referral.now.prefix c.make_room.ensures.live key)))

pub returns-in-Ok-clause-noted : goal.returns-in-Ok-clause-noted
returns-in-Ok-clause-noted g c =
    noted_inserted c.make_room.new.ends c.note_instead.new.self (g.M.PrefixMap.content c.make_room.new.entries) (g.M.PrefixMap.content c.insert.new.self)
    c.args.referral.now.prefix c.entry_at-entry.result c.in-Ok.ensures.inserted c.note_instead.ensures.noted c.note_instead.ensures.others
    c.make_room.ensures.noted
