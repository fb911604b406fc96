use Rattle.std.proofs.Common.{[], refl, None, Some}
use Rattle.ddt_sockets.specs.laws.Tell.{tells_none}
use Rattle.ddt_daemon.specs.Rounds.{other_port, spelled, lost_whole}
use Rattle.ddt_daemon.proofs.map_resolver.MapResolver.hear.Goals as goal

pub returns-then-packet-ne-CONTROL_PORT : goal.returns-then-packet-ne-CONTROL_PORT
returns-then-packet-ne-CONTROL_PORT g c = ([], [], tells_none _, tells_none _, other_port c.if-packet-ne-CONTROL_PORT.true refl refl refl)

pub returns-in-Ok-None : goal.returns-in-Ok-None
returns-in-Ok-None g c =
    let w = c.hear_spelled.ensures in (
      w.0,
      w.1,
      w.2,
      w.3,
      spelled None c.if-packet-ne-CONTROL_PORT.false (rw c.in-Ok-None.field-0-is at c.in-Ok-None.ensures.spelled)
          (rw (c.spelled.ensures.running, c.spelled.ensures.waiting, c.spelled.ensures.counts, c.spelled.ensures.recent) at w.4),
    )

pub returns-in-Ok-Some : goal.returns-in-Ok-Some
returns-in-Ok-Some g c =
    let w = c.hear_spelled-in-Ok-Some.ensures in (
      w.0,
      w.1,
      w.2,
      w.3,
      spelled (Some c.in-Ok-Some.plain) c.if-packet-ne-CONTROL_PORT.false (rw c.in-Ok-Some.field-0-is at c.in-Ok-Some.ensures.spelled)
          (rw (c.spelled.ensures.running, c.spelled.ensures.waiting, c.spelled.ensures.counts, c.spelled.ensures.recent, c.as_slice.ensures) at w.4),
    )

pub returns-in-Err : goal.returns-in-Err
returns-in-Err g c =
    let its = c.in-Err.ensures.wanted in (
      [],
      [],
      tells_none _,
      tells_none _,
      lost_whole its.0 its.1 c.if-packet-ne-CONTROL_PORT.false its.2 its.3 refl refl
          (rw (c.spelled.ensures.running, c.spelled.ensures.waiting, c.spelled.ensures.counts, c.spelled.ensures.recent) refl),
    )
