use Rattle.std.proofs.Common.{[], refl, sym, ◌∙◌}
use Rattle.ddt_sockets.specs.laws.Tell.{tells_none}
use Rattle.ddt_daemon.specs.Rounds.{dropped, answered, heard}
use Rattle.ddt_daemon.proofs.HandleLemmas.{handled_asked}
use Rattle.ddt_daemon.proofs.map_resolver.MapResolver.handle_packet.Goals as goal

pub returns-then-not-is_of : goal.returns-then-not-is_of
returns-then-not-is_of g c =
    let w = c.hear.ensures in
    (w.0, w.1, w.2, w.3, heard (sym c.is_of.ensures ∙ c.if-not-is_of.true) w.4)

pub returns-in-Ok-Answered : goal.returns-in-Ok-Answered
returns-in-Ok-Answered g c =
    let told = c.tell_at_once.ensures.told in
    let granted = rw c.in-Ok-Answered.field-0-is at c.in-Ok-Answered.ensures.admitted in (
      told.0,
      [],
      told.1,
      tells_none _,
      answered c.in-Ok-Answered.ready.request c.in-Ok-Answered.ready.outcome (sym c.is_of.ensures ∙ c.if-not-is_of.false) granted.0 granted.1
          (rw c.in-Ok-Answered.ready-is at told.2) refl
          (rw (c.tell_at_once.ensures.running, c.tell_at_once.ensures.waiting, c.tell_at_once.ensures.counts, c.in-Ok-Answered.ensures.moved, c.in-Ok-Answered.ensures.same, c.in-Ok-Answered.ensures.counts, c.tell_at_once.ensures.recent, rw c.in-Ok-Answered.field-0-is at c.in-Ok-Answered.ensures.remembered) refl),
    )

pub returns-in-Ok-Waits : goal.returns-in-Ok-Waits
returns-in-Ok-Waits g c =
    let w = c.ask.ensures in (
      w.0,
      [],
      w.1,
      tells_none _,
      handled_asked c.admit.new.self.recent.places.items c.in-Ok-Waits.waiter (sym c.is_of.ensures ∙ c.if-not-is_of.false)
          (rw c.in-Ok-Waits.field-0-is at c.in-Ok-Waits.ensures.admitted) (rw c.in-Ok-Waits.field-0-is at c.in-Ok-Waits.ensures.remembered)
          (rw (c.in-Ok-Waits.waiter-is, c.in-Ok-Waits.ensures.moved, c.in-Ok-Waits.ensures.same, c.in-Ok-Waits.ensures.counts) at w.2),
    )

pub returns-in-Err : goal.returns-in-Err
returns-in-Err g c = (
  [],
  [],
  tells_none _,
  tells_none _,
  dropped c.in-Err.why _ (sym c.is_of.ensures ∙ c.if-not-is_of.false) c.in-Err.ensures.dropped c.in-Err.ensures.waited refl refl
      (rw (c.drop_one.ensures.counts, c.drop_one.ensures.running, c.drop_one.ensures.waiting, c.in-Err.ensures.same, c.in-Err.ensures.counts, c.drop_one.ensures.recent, c.in-Err.ensures.recent) refl),
)
