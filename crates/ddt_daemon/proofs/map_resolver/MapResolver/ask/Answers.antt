use Rattle.std.proofs.Common.{[], refl}
use Rattle.ddt_sockets.specs.laws.Tell.{tells_none}
use Rattle.ddt_daemon.specs.Rounds.{shares, asks}
use Rattle.ddt_daemon.proofs.map_resolver.MapResolver.ask.Goals as goal

pub returns-in-Shared : goal.returns-in-Shared
returns-in-Shared g c =
    let k = c.keep.ensures.kept in (
      [],
      tells_none _,
      shares c.in-Shared.ticket k.0 c.in-Shared.is k.2 k.3 refl (rw (c.keep.ensures.running, k.1, c.keep.ensures.counts, c.share_one.ensures, c.keep.ensures.recent) refl),
    )

pub returns-in-Own : goal.returns-in-Own
returns-in-Own g c = let w = c.begin.ensures.asks in (w.0, w.1, asks c.in-Own.servers c.in-Own.is w.2 c.begin.ensures.keeps)
