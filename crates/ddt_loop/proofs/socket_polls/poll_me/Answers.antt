use Rattle.std.proofs.Common.{[], ◌∷◌, refl, take, Ok, Some}
use Rattle.ddt_sockets.specs.laws.Tell.{tells_both}
use Rattle.ddt_loop.specs.Polls.{polled, no_packet, came}
use Rattle.ddt_loop.proofs.socket_polls.poll_me.Goals as goal

pub returns-in-Some-clause-polls : goal.returns-in-Some-clause-polls
returns-in-Some-clause-polls g c =
    let w = c.take-came.ensures.taken in
    let p = c.in-Some.packet in
    let bytes = take p.len c.poll.new.buffer in
    let first = polled c.args.here.now.me (Ok (Some p)) bytes in (
      first ∷ w.0,
      tells_both _ (first ∷ []) _ w.0 _ c.in-Some.ensures.came w.1,
      came p bytes w.0 w.2 refl,
    )

pub returns-in-None-clause-polls : goal.returns-in-None-clause-polls
returns-in-None-clause-polls g c = let none = c.in-None.ensures.none in (none.0 ∷ [], none.2, no_packet none.0 none.1 refl refl)
