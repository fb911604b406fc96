use Rattle.std.proofs.Common.{◌≡◌, length, arith, sym, ◌∙◌}
use Rattle.ddt_sockets.specs.Turns.{most_bytes}
use Rattle.ddt_asking.proofs.AskLemmas.{has_no_pause, has_paused}
use Rattle.ddt_asking.proofs.prober.Prober.pause.Goals as goal

pub returns-then-pause-eq0-clause-pause : goal.returns-then-pause-eq0-clause-pause
returns-then-pause-eq0-clause-pause g c =
    has_no_pause (g.W.Wires.calls c.args.wires.now) (g.C.Clock.readings c.args.clock.now) c.args.self.now.options
    (sym c.pause-pause.ensures ∙ c.if-pause-eq0.true)

pub returns-clause-pause : goal.returns-clause-pause
returns-clause-pause g c =
    let w = c.await_reply-none.ensures.waited in
    let room : length c.receive-lost.new.buffer ≡ most_bytes =
    omega (arith, c.receive-lost.auto.buffer, c.requires) in
    has_paused (g.W.Wires.calls c.args.wires.now) (g.W.Wires.calls c.receive-lost.new.self)
    (g.W.Wires.calls c.await_reply-none.new.wires) (g.C.Clock.readings c.args.clock.now)
    (g.C.Clock.readings c.now.new.self) (g.C.Clock.readings c.await_reply-none.new.clock) c.args.self.now.options
    c.receive-lost.result c.receive-lost.new.buffer c.millis-since.result c.pause-pause.result w.0 _
    c.pause-pause.ensures room c.receive-lost.ensures.told (rw c.millis-since.ensures.value c.now.ensures) w.1 w.2
