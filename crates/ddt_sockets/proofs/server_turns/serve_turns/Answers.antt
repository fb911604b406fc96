use Rattle.ddt_sockets.specs.laws.Turn.{no_turn_yet, serving_on}
use Rattle.ddt_sockets.proofs.server_turns.serve_turns.Goals as goal

pub loop-turn-init : goal.loop-turn-init
loop-turn-init g c = no_turn_yet (g.W.Wires.calls c.args.wires.now) c.args.server.now c.args.at

pub loop-turn-preserved : goal.loop-turn-preserved
loop-turn-preserved g c =
    let w = c.serve_turn-turn.ensures in
    rw (w.3, w.4)
    (serving_on (g.W.Wires.calls c.args.wires.now) (g.W.Wires.calls c.loop-turn.wires)
    (g.W.Wires.calls c.serve_turn-turn.new.wires) c.args.server.now c.args.at c.loop-turn._turn c.loop-turn.received
    c.loop-turn.replied w.0 c.loop-turn.invariant w.1 w.2)
