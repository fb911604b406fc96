use Rattle.std.proofs.Common.{◌≡◌, List, length}
use Rattle.ddt_sockets.specs.declared.wire_calls.Call.{Call}
use Rattle.ddt_sockets.specs.Calls.{RecordsCalls}
use Rattle.ddt_daemon.specs.Goes.{Closes}
use Rattle.ddt_daemon.proofs.map_resolver.MapResolver.close.Given as goal

-- those that were taken off so far are closed
abbrev pub invariant-loop-kept : goal.invariant-loop-kept
invariant-loop-kept g l =
    record {
      calls : (near far : List Call) × RecordsCalls (g.W.Wires.calls l.fn.near) near (g.W.Wires.calls l.near)
          × RecordsCalls (g.V.Wires.calls l.fn.far) far (g.V.Wires.calls l.far)
          × Closes l.closing.me l.closing.by l.closing.ended l.fn.self.waiting.kept.items near far l.self.waiting.kept.items;
      running : l.self.running ≡ l.fn.self.running;
      counts : l.self.counts ≡ l.fn.self.counts;
      recent : l.self.recent.places.items ≡ l.fn.self.recent.places.items;
    }

abbrev pub decreases-loop-kept : goal.decreases-loop-kept
decreases-loop-kept g l = length l.self.waiting.kept.items
