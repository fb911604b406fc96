use Rattle.std.proofs.Common.{◌≡◌, length}
use Rattle.ddt_config.specs.Table.{Outline}
use Rattle.ddt_sockets.specs.Turns.{most_bytes}
use Rattle.ddt_map_server.specs.Turns.{Follows}
use Rattle.ddt_map_server.proofs.TurnLemmas.{HasTurned}
use Rattle.ddt_map_server.proofs.map_server.MapServer.serve_ready.Given as goal

-- so many turns so far
abbrev pub invariant-loop-turn : goal.invariant-loop-turn
invariant-loop-turn g l =
    ((c : Outline) → Follows c l.fn.self → Follows c l.self × HasTurned (g.W.Wires.calls l.fn.wires) (g.W.Wires.calls l.wires) c
    l.door.settings.now l.moment l.door.at l.fn.self.registering l.self.registering l._turn)
    × (length l.buffer ≡ most_bytes) × (l.received ≡ l._turn)
