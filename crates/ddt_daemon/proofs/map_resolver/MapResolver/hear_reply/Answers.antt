use Rattle.std.proofs.Common.{[], ◌++◌, append-nil, Some, None, refl, sym}
use Rattle.ddt_sockets.specs.laws.Tell.{tells_both, tells_none}
use Rattle.ddt_daemon.proofs.EndLemmas.{is_none}
use Rattle.ddt_daemon.proofs.map_resolver.MapResolver.hear_reply.Goals as goal

pub returns-in-Some : goal.returns-in-Some
returns-in-Some g c =
    let w = c.hear-ended.ensures.taken in
    let k = c.close.ensures.closed in (
      w.0 ++ k.0,
      k.1,
      tells_both _ w.0 _ k.0 _ w.1 k.2,
      k.3,
      record {
        tries = w.0;
        taken = rw c.close.ensures.running w.2;
        ended = Some c.in-Some.ended;
        ends = rw c.close.ensures.running (record { port = c.requires.port; ends = (rw c.in-Some.is at c.hear-ended.ensures.came).1 });
        no_end = tt;
        tells = k.0;
        follows = k.4;
        calls_are = refl;
        ignored = c.hear-ended.result.ignored;
        is_ignored = c.hear-ended.ensures.ignored;
        is_used = c.hear-ended.ensures.used;
        counts = rw (c.close.ensures.counts, c.end_one.ensures, c.hear_one.ensures) refl;
        recent = c.close.ensures.recent;
      },
    )

pub returns-in_default : goal.returns-in_default
returns-in_default g c =
    let w = c.hear-ended.ensures.taken in (
      w.0,
      [],
      w.1,
      tells_none _,
      record {
        tries = w.0;
        taken = w.2;
        ended = None;
        ends = tt;
        no_end = rw (is_none c.hear-ended.result.ended c.in_default.not-Some) at c.hear-ended.ensures.came;
        tells = [];
        follows = (refl, refl, refl);
        calls_are = sym (append-nil w.0);
        ignored = c.hear-ended.result.ignored;
        is_ignored = c.hear-ended.ensures.ignored;
        is_used = c.hear-ended.ensures.used;
        counts = c.hear_one.ensures;
        recent = refl;
      },
    )
