use Rattle.ddt_loop.specs.Acts.{running}
use Rattle.ddt_loop.proofs.start_lookups.ask_at.Goals as goal

pub returns-clause-asks : goal.returns-clause-asks
returns-clause-asks g c =
    let w = c.ask-answer.ensures.asks in
    let midway = running c.ask-answer.new.resolver c.ask-answer.new.requesters in
    (w.0, w.1, record { answer = c.ask-answer.result; midway = midway; asks = w.2; ends = rw (c.end.ensures, c.end_of_ask.ensures) })
