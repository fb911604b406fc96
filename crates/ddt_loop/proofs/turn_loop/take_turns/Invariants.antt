use Rattle.ddt_loop.specs.Acts.{running}
use Rattle.ddt_loop.proofs.LoopLemmas.{IsTurning}
use Rattle.ddt_loop.proofs.turn_loop.take_turns.Given as goal

-- so many turns so far
abbrev pub invariant-loop-number : goal.invariant-loop-number
invariant-loop-number g l =
    IsTurning (g.C.Clock.readings l.fn.clock) (g.C.Clock.readings l.clock) (g.W.Wires.calls l.fn.wires) (g.W.Wires.calls l.wires)
    l.tree.servers.now l.tree.me l.tree.sockets.now (running l.fn.resolver l.fn.requesters) (running l.resolver l.requesters) l.number
