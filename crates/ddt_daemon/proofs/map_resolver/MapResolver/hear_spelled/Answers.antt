use Rattle.std.proofs.Common.{[], refl, sym, ◌∙◌}
use Rattle.ddt_sockets.specs.laws.Tell.{tells_none}
use Rattle.ddt_daemon.specs.Rounds.{whole, cut, lost}
use Rattle.ddt_daemon.proofs.HandleLemmas.{plain_cut}
use Rattle.ddt_daemon.proofs.map_resolver.MapResolver.hear_spelled.Goals as goal

pub returns-in-Ok-None : goal.returns-in-Ok-None
returns-in-Ok-None g c =
    let w = c.hear_reply.ensures in
    (w.0, w.1, w.2, w.3, whole (rw (c.resolver.ensures, c.in-Ok-None.field-0-is) at c.in-Ok-None.ensures.cut) w.4)

pub returns-in-Ok-Some : goal.returns-in-Ok-Some
returns-in-Ok-Some g c =
    let w = c.hear_reply-in-Ok-Some.ensures in (
      w.0,
      w.1,
      w.2,
      w.3,
      cut c.in-Ok-Some.cut (rw (c.resolver.ensures, c.in-Ok-Some.field-0-is) at c.in-Ok-Some.ensures.cut)
          (rw (c.cut_one.ensures, c.as_slice.ensures) at w.4),
    )

pub returns-in-Err : goal.returns-in-Err
returns-in-Err g c = (
  [],
  [],
  tells_none _,
  tells_none _,
  lost (rw c.resolver.ensures at c.in-Err.ensures.wanted) refl refl refl,
)
