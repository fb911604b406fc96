use Rattle.ddt_sockets.specs.laws.Turn.{IsServing}
use Rattle.ddt_sockets.proofs.server_turns.serve_turns.Given as goal

-- so many turns so far
abbrev pub invariant-loop-turn : goal.invariant-loop-turn
invariant-loop-turn g l =
    IsServing (g.W.Wires.calls l.fn.wires) (g.W.Wires.calls l.wires) l.server l.at l._turn l.received l.replied
