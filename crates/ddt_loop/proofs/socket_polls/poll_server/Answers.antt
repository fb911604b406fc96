use Rattle.std.proofs.Common.{[], ◌∷◌, refl, take, Ok, Some}
use Rattle.ddt_sockets.specs.laws.Tell.{tells_both}
use Rattle.ddt_loop.specs.Polls.{polled, none_there}
use Rattle.ddt_loop.proofs.socket_polls.poll_server.Goals as goal

pub returns-in-Some : goal.returns-in-Some
returns-in-Some g c =
    let w = c.serve.ensures in
    let p = c.in-Some.packet in
    let first = polled c.args.at (Ok (Some p)) (take p.len c.poll.new.buffer) in (
      first ∷ w.0,
      tells_both _ (first ∷ []) _ w.0 _ c.in-Some.ensures.came w.1,
      w.2,
    )

pub returns-in-None : goal.returns-in-None
returns-in-None g c = let none = c.in-None.ensures.none in (none.0 ∷ [], none.2, none_there none.0 none.1 refl)
