use Rattle.std.proofs.Common.{rules, sym, ◌∙◌, arith}
use Rattle.ddt_cache.specs.Live.{live_at}
use Rattle.ddt_cache.specs.laws.Size.{len-live_at, room_below}
use Rattle.ddt_cache.specs.laws.Ends.{room_at_live, room_dropped}
use Rattle.ddt_cache.proofs.saved_records.make_room.Goals as goal

pub returns-then-len-lt-MOST_LIVE_ENTRIES-clause-room : goal.returns-then-len-lt-MOST_LIVE_ENTRIES-clause-room
returns-then-len-lt-MOST_LIVE_ENTRIES-clause-room g c =
    let m = g.M.PrefixMap.content c.args.entries.now in
    sym (room_below (live_at c.args.time m) c.args.prefix (omega (arith, len-live_at c.args.time m, c.len.ensures, c.if-len-lt-MOST_LIVE_ENTRIES.true)))

pub returns-then-is_live-clause-left : goal.returns-then-is_live-clause-left
returns-then-is_live-clause-left g c = λ _.
    (room_at_live c.args.time (g.M.PrefixMap.content c.args.entries.now) c.args.prefix (sym c.is_live.ensures ∙ c.if-is_live.true)).1

pub returns-then-is_some-clause-room : goal.returns-then-is_some-clause-room
returns-then-is_some-clause-room g c =
    let n = g.M.PrefixMap.content c.drop_ended.new.entries in
    search (rules, room_dropped c.args.time (g.M.PrefixMap.content c.args.entries.now) n c.args.prefix c.drop_ended.ensures.live c.drop_ended.ensures.done)

pub returns-else-is_some-clause-room : goal.returns-else-is_some-clause-room
returns-else-is_some-clause-room g c =
    let n = g.M.PrefixMap.content c.drop_ended.new.entries in
    search (rules, room_dropped c.args.time (g.M.PrefixMap.content c.args.entries.now) n c.args.prefix c.drop_ended.ensures.live c.drop_ended.ensures.done)
