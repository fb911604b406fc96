use Rattle.std.proofs.Common.{List}
use Rattle.ddt_sockets.specs.declared.wire_calls.Call.{Call}
use Rattle.ddt_sockets.specs.Calls.{RecordsCalls}
use Rattle.ddt_daemon.specs.Resolving.{resolving}
use Rattle.ddt_daemon.specs.Rounds.{AreTicks}
use Rattle.ddt_daemon.proofs.map_resolver.MapResolver.tick_due.Given as goal

-- so many ticks so far
abbrev pub invariant-loop-tick : goal.invariant-loop-tick
invariant-loop-tick g l =
    (near far : List Call) × RecordsCalls (g.W.Wires.calls l.fn.near) near (g.W.Wires.calls l.near)
    × RecordsCalls (g.V.Wires.calls l.fn.far) far (g.V.Wires.calls l.far)
    × AreTicks l.me l.now (resolving l.fn.self.running l.fn.self.waiting.kept.items l.fn.self.counts l.fn.self.recent.places.items) l._tick near far
    (resolving l.self.running l.self.waiting.kept.items l.self.counts l.self.recent.places.items)
