use Rattle.std.proofs.Common.{refl}
use Rattle.ddt_daemon.specs.Rounds.{at_once, waits}
use Rattle.ddt_daemon.proofs.EndLemmas.{is_none}
use Rattle.ddt_daemon.proofs.map_resolver.MapResolver.begin.Goals as goal

pub returns-in-Some-clause-keeps : goal.returns-in-Some-clause-keeps
returns-in-Some-clause-keeps g c =
    let k = c.keep.ensures.kept in
    waits k.0 k.3 (rw (c.keep.ensures.running, k.2) (rw c.in-Some.is at c.ask-ticket.ensures.waits)) k.1
    (rw (c.keep.ensures.counts, c.start_one.ensures) refl) c.keep.ensures.recent

pub returns-in_default-clause-keeps : goal.returns-in_default-clause-keeps
returns-in_default-clause-keeps g c =
    at_once (rw (is_none c.ask-ticket.result c.in_default.not-Some) at c.ask-ticket.ensures.none) refl refl refl
