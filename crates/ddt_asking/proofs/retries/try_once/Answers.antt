use Rattle.ddt_asking.proofs.TryLemmas.{try_is_lost, try_is_sent}
use Rattle.ddt_asking.proofs.retries.try_once.Goals as goal

pub returns-then-is_err-clause-tried : goal.returns-then-is_err-clause-tried
returns-then-is_err-clause-tried g c =
    try_is_lost (g.W.Wires.calls c.args.wires.now) (g.W.Wires.calls c.send-sent.new.self)
    (g.C.Clock.readings c.args.clock.now) (g.C.Clock.readings c.now.new.self) c.args.options.now c.args.request.now
    c.args.awaited c.now.result c.now.ensures c.send-sent.result
    (let failed = c.if-is_err.true in let is = c.is_err.ensures.value in cc) c.send-sent.ensures.told

pub returns-clause-tried : goal.returns-clause-tried
returns-clause-tried g c =
    let w = c.await_reply.ensures.waited in
    try_is_sent (g.W.Wires.calls c.args.wires.now) (g.W.Wires.calls c.send-sent.new.self)
    (g.C.Clock.readings c.args.clock.now) (g.C.Clock.readings c.now.new.self) c.args.options.now c.args.request.now
    c.args.awaited c.millis-now.result (rw c.millis-now.ensures.value c.now.ensures) c.send-sent.result
    (let went = c.if-is_err.false in let is = c.is_err.ensures.value in cc) c.send-sent.ensures.told
    (g.W.Wires.calls c.await_reply.new.wires) (g.C.Clock.readings c.await_reply.new.clock) w.0 _ w.1 w.2
