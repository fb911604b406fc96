use Rattle.std.proofs.Common.{refl, sym, ◌∙◌}
use Rattle.ddt_daemon.specs.Resolving.{resolving, at_moment}
use Rattle.ddt_daemon.proofs.PlaceLemmas.{admitted_is, may_wait, refused_is, refused_wait}
use Rattle.ddt_daemon.proofs.map_resolver.MapResolver.admit.Goals as goal

pub returns-in-Err-clause-dropped : goal.returns-in-Err-clause-dropped
returns-in-Err-clause-dropped g c =
    let self = c.args.self.now in
    c.in-Err.ensures.dropped c.args.now (resolving self.running self.waiting.kept.items self.counts self.recent.places.items)

pub returns-in-Err-place-clause-dropped : goal.returns-in-Err-place-clause-dropped
returns-in-Err-place-clause-dropped g c =
    let self = c.args.self.now in
    refused_is c.args.now (resolving self.running self.waiting.kept.items self.counts self.recent.places.items) c.in-Err-place.why
    c.in-Ok.ensures.allowed (sym c.has.ensures ∙ c.if-has.false) c.in-Err-place.ensures.refused

pub returns-in-Ok-waiter-clause-admitted : goal.returns-in-Ok-waiter-clause-admitted
returns-in-Ok-waiter-clause-admitted g c =
    let placed = rw c.in-Ok-Waits.field-0-is at c.in-Ok-Waits.ensures.placed in (
      admitted_is c.args.self.now.waiting.kept.items (at_moment c.args.now c.args.self.now.running) c.in-Ok-Waits.lookup
          c.in-Ok.ensures.allowed (sym c.has.ensures ∙ c.if-has.false) placed,
      placed,
      refl,
      c.in-Ok-waiter.ensures.bytes,
    )

pub returns-in-Err-waiter-clause-dropped : goal.returns-in-Err-waiter-clause-dropped
returns-in-Err-waiter-clause-dropped g c =
    let self = c.args.self.now in
    let placed = rw c.in-Ok-Waits.field-0-is at c.in-Ok-Waits.ensures.placed in
    refused_wait c.args.now (resolving self.running self.waiting.kept.items self.counts self.recent.places.items) c.in-Err-waiter.why
    (may_wait self.waiting.kept.items (at_moment c.args.now self.running) c.in-Ok-Waits.lookup c.in-Ok.ensures.allowed
    (sym c.has.ensures ∙ c.if-has.false) placed) (rw c.place.ensures.recent at c.in-Err-waiter.ensures.refused)
