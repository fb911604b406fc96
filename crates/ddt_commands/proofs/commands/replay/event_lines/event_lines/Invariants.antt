use Rattle.std.proofs.Common.{◌≡◌, ◌≤◌, ◌++◌, drop}
use Rattle.ddt_commands.specs.Commands.Replay.{lines_from}
use Rattle.ddt_commands.proofs.commands.replay.event_lines.event_lines.Given as goal

abbrev pub invariant-loop-event : goal.invariant-loop-event
invariant-loop-event l = record {
  told : l.text.items ++ lines_from l.sent (drop l.event-index l.events) ≡ lines_from 0 l.events;
  few : l.sent ≤ l.event-index;
}
