use Rattle.std.proofs.Common.{[], ◌++◌, append-nil, Some, None, refl, sym}
use Rattle.ddt_sockets.specs.laws.Tell.{tells_both, tells_none}
use Rattle.ddt_daemon.proofs.EndLemmas.{is_none}
use Rattle.ddt_daemon.proofs.map_resolver.MapResolver.tick.Goals as goal

pub returns-in-Some : goal.returns-in-Some
returns-in-Some g c =
    let w = c.tick-ended.ensures.resolves in
    let k = c.close.ensures.closed in (
      w.0 ++ k.0,
      k.1,
      tells_both _ w.0 _ k.0 _ w.1 k.2,
      k.3,
      record {
        tries = w.0;
        resolves = rw c.close.ensures.running w.2;
        ended = Some c.in-Some.ended;
        ends = rw c.close.ensures.running (rw c.in-Some.is at c.tick-ended.ensures.ended);
        no_end = tt;
        tells = k.0;
        follows = k.4;
        calls_are = refl;
        counts = rw (c.close.ensures.counts, c.end_one.ensures) refl;
        recent = c.close.ensures.recent;
      },
    )

pub returns-in_default : goal.returns-in_default
returns-in_default g c =
    let w = c.tick-ended.ensures.resolves in (
      w.0,
      [],
      w.1,
      tells_none _,
      record {
        tries = w.0;
        resolves = w.2;
        ended = None;
        ends = tt;
        no_end = rw (is_none c.tick-ended.result c.in_default.not-Some) at c.tick-ended.ensures.ended;
        tells = [];
        follows = (refl, refl, refl);
        calls_are = sym (append-nil w.0);
        counts = refl;
        recent = refl;
      },
    )
