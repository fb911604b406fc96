use Rattle.std.proofs.Common.{◌≡◌, length}
use Rattle.ddt_sockets.specs.Turns.{most_bytes}
use Rattle.ddt_daemon.proofs.TurnLemmas.{HasTurned}
use Rattle.ddt_daemon.proofs.server_round.serve_ready.Given as goal

-- so many turns so far
abbrev pub invariant-loop-turn : goal.invariant-loop-turn
invariant-loop-turn g l =
    HasTurned (g.W.Wires.calls l.fn.wires) (g.W.Wires.calls l.wires) l.server l.door.settings.now l.door.at l._turn
    × (length l.buffer ≡ most_bytes) × (l.received ≡ l._turn)
