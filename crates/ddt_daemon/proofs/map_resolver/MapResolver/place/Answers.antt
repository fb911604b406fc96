use Rattle.ddt_resolver.specs.State.{moved}
use Rattle.ddt_daemon.proofs.EndLemmas.{is_none}
use Rattle.ddt_daemon.proofs.PlaceLemmas.{answers_with, unanswered, begins_at_its}
use Rattle.ddt_daemon.proofs.map_resolver.MapResolver.place.Goals as goal

pub returns-then-is_full-clause-refused : goal.returns-then-is_full-clause-refused
returns-then-is_full-clause-refused g c = (
  unanswered (moved c.args.now c.args.self.now.running.state) c.args.x c.beginning.ensures.begins.0 c.beginning.ensures.begins.1 c.in-Servers.servers c.beginning.ensures.begins.2 (rw c.in-Servers.is at c.beginning.ensures.begins.3),
  c.is_full.ensures.full c.if-is_full.true,
)

pub returns-then-is_full_of_source-clause-refused : goal.returns-then-is_full_of_source-clause-refused
returns-then-is_full_of_source-clause-refused g c = (
  unanswered (moved c.args.now c.args.self.now.running.state) c.args.x c.beginning.ensures.begins.0 c.beginning.ensures.begins.1 c.in-Servers.servers c.beginning.ensures.begins.2 (rw c.in-Servers.is at c.beginning.ensures.begins.3),
  (c.is_full.ensures.room c.if-is_full.false, c.is_full_of_source.ensures.full c.if-is_full_of_source.true),
)

pub returns-then-is_full_of_set-clause-refused : goal.returns-then-is_full_of_set-clause-refused
returns-then-is_full_of_set-clause-refused g c = (
  unanswered (moved c.args.now c.args.self.now.running.state) c.args.x c.beginning.ensures.begins.0 c.beginning.ensures.begins.1 c.in-Servers.servers c.beginning.ensures.begins.2 (rw c.in-Servers.is at c.beginning.ensures.begins.3),
  (
    record { few = c.is_full.ensures.room c.if-is_full.false; few_of_source = c.is_full_of_source.ensures.room c.if-is_full_of_source.false },
    rw (is_none c.ticket_for.result c.in_default.not-Some, c.beginning.ensures.time) at c.ticket_for.ensures.none,
    (
      c.in-Servers.servers,
      begins_at_its (moved c.args.now c.args.self.now.running.state) c.args.x c.beginning.ensures.begins.0 c.beginning.ensures.begins.1 c.in-Servers.servers c.beginning.ensures.begins.2 (rw c.in-Servers.is at c.beginning.ensures.begins.3),
      c.is_full_of_set.ensures.full c.if-is_full_of_set.true,
    ),
  ),
)

pub returns-in-Some-clause-placed : goal.returns-in-Some-clause-placed
returns-in-Some-clause-placed g c = (
  unanswered (moved c.args.now c.args.self.now.running.state) c.args.x c.beginning.ensures.begins.0 c.beginning.ensures.begins.1 c.in-Servers.servers c.beginning.ensures.begins.2 (rw c.in-Servers.is at c.beginning.ensures.begins.3),
  rw (c.in-Some.is, c.beginning.ensures.time) at c.ticket_for.ensures.asked,
  record { few = c.is_full.ensures.room c.if-is_full.false; few_of_source = c.is_full_of_source.ensures.room c.if-is_full_of_source.false },
)

pub returns-clause-placed : goal.returns-clause-placed
returns-clause-placed g c = (
  rw (is_none c.ticket_for.result c.in_default.not-Some, c.beginning.ensures.time) at c.ticket_for.ensures.none,
  begins_at_its (moved c.args.now c.args.self.now.running.state) c.args.x c.beginning.ensures.begins.0 c.beginning.ensures.begins.1 c.in-Servers.servers c.beginning.ensures.begins.2 (rw c.in-Servers.is at c.beginning.ensures.begins.3),
  record { few = c.is_full.ensures.room c.if-is_full.false; few_of_source = c.is_full_of_source.ensures.room c.if-is_full_of_source.false },
  c.is_full_of_set.ensures.room c.if-is_full_of_set.false,
)

pub returns-in-Answer-clause-placed : goal.returns-in-Answer-clause-placed
returns-in-Answer-clause-placed g c =
    answers_with (moved c.args.now c.args.self.now.running.state) c.args.x c.beginning.ensures.begins.0 c.beginning.ensures.begins.1 c.in-Answer.outcome
    c.beginning.ensures.begins.2 (rw c.in-Answer.is at c.beginning.ensures.begins.3)
