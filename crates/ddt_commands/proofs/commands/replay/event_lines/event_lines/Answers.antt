use Rattle.std.proofs.Common.{◌∙◌, arith}
use Rattle.ddt_commands.proofs.ReplayLemmas.{event_last, event_more}
use Rattle.ddt_commands.proofs.commands.replay.event_lines.event_lines.Goals as goal

pub loop-event-preserved : goal.loop-event-preserved
loop-event-preserved c = record {
  told =
      event_more c.args.events.now c.loop-event.event-index c.loop-event.sent c.datagrams.result c.event-item.result c.loop-event.text.items c.extend_from_slice.new.self.items
      c.deref.result.now c.loop-event-test.true c.event-item.is c.loop-event.invariant.told c.in_ok-extend_from_slice.ensures.items (c.deref.ensures.value ∙ c.in_ok-event_line.ensures)
      c.datagrams.ensures.count;
  few = omega arith;
}

pub returns : goal.returns
returns c = event_last c.args.events.now c.loop-event.event-index c.loop-event.sent c.loop-event.text.items c.loop-event-test.false c.loop-event.invariant.told
