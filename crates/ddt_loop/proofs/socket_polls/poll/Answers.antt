use Rattle.std.proofs.Common.{◌≡◌, length, arith, inr, Err}
use Rattle.ddt_sockets.specs.Calls.{received}
use Rattle.ddt_sockets.specs.Turns.{most_bytes}
use Rattle.ddt_loop.proofs.LoopLemmas.{unanswered}
use Rattle.ddt_loop.proofs.socket_polls.poll.Goals as goal

pub returns-in-Ok-clause-none : goal.returns-in-Ok-clause-none
returns-in-Ok-clause-none g c =
    unanswered c.args.at c.in-Ok.answer c.receive.new.buffer (g.W.Wires.calls c.args.wires.now) (g.W.Wires.calls c.receive.new.self)
    (omega (arith, c.receive.auto.buffer, c.requires)) c.in-Ok.ensures.told

pub returns-in-Err-clause-none : goal.returns-in-Err-clause-none
returns-in-Err-clause-none g c =
    let fault = c.in-Err._fault in
    let room : length c.receive.new.buffer ≡ most_bytes = omega (arith, c.receive.auto.buffer, c.requires) in
    (received c.args.at (Err fault) c.receive.new.buffer, inr (fault, rw room), c.in-Err.ensures.told)
