use Rattle.ddt_loop.specs.Acts.{running}
use Rattle.ddt_loop.proofs.LoopLemmas.{IsAsking}
use Rattle.ddt_loop.proofs.start_lookups.ask_all.Given as goal

-- so many asks so far
abbrev pub invariant-loop-place : goal.invariant-loop-place
invariant-loop-place g l =
    IsAsking (g.W.Wires.calls l.fn.wires) (g.W.Wires.calls l.wires) l.here.me l.here.moment l.ids (running l.fn.resolver l.fn.requesters)
    (running l.resolver l.requesters) l.place
