use Rattle.std.proofs.Common.{[], ◌++◌, inr}
use Rattle.ddt_sockets.specs.laws.Tell.{tells_both, tells_none}
use Rattle.ddt_daemon.specs.Rounds.{no_tick, one_tick}
use Rattle.ddt_daemon.proofs.map_resolver.MapResolver.tick_due.Goals as goal

pub loop-tick-init : goal.loop-tick-init
loop-tick-init g c = ([], [], tells_none _, tells_none _, no_tick)

pub loop-tick-preserved : goal.loop-tick-preserved
loop-tick-preserved g c =
    let w = c.loop-tick.invariant in
    let t = c.tick.ensures in (
      w.0 ++ t.0,
      w.1 ++ t.1,
      tells_both _ w.0 _ t.0 _ w.2 t.2,
      tells_both _ w.1 _ t.1 _ w.3 t.3,
      one_tick t.0 t.1 _ w.4 t.4,
    )

pub returns-then-not-is_due : goal.returns-then-not-is_due
returns-then-not-is_due g c =
    let w = c.loop-tick.invariant in
    (c.loop-tick._tick, w.0, w.1, w.2, w.3, w.4, inr (c.is_due.ensures c.if-not-is_due.true))
