use Rattle.std.proofs.Common.{◌-◌, ◌%◌, ◌+◌, ◌<◌, length, get_or, arith, rules}
use Rattle.ddt_path.specs.declared.locator.Locator.TheVariants.{V4}
use Rattle.std.proofs.lemmas.Option.{slice_get-get_or}
use Rattle.ddt_loop.proofs.LoopLemmas.{at_server}
use Rattle.ddt_loop.proofs.socket_polls.poll_in_turn.Goals as goal

pub returns-then-place-eq0-clause-polls : goal.returns-then-place-eq0-clause-polls
returns-then-place-eq0-clause-polls g c = let w = c.poll_me.ensures.polls in (w.0, w.1, rw c.if-place-eq0.true w.2)

pub returns-else-place-eq0-clause-polls : goal.returns-else-place-eq0-clause-polls
returns-else-place-eq0-clause-polls g c =
    let w = c.poll_server.ensures in
    let tree = c.args.tree.now in
    let place = c.args.turn.now.number % (length tree.sockets.now + 1) in
    let above : 0 < place = omega (arith, c.if-place-eq0.false) in
    let within : place - 1 < length tree.sockets.now = search (rules, arith, above) in (
      w.0,
      w.1,
      at_server _ _ tree.sockets.now _ place _ _ (get_or tree.sockets.now (place - 1) (V4 0)) above
          (slice_get-get_or tree.sockets.now (place - 1) (V4 0) within) w.2,
    )
