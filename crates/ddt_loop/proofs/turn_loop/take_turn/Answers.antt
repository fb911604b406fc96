use Rattle.std.proofs.Common.{◌++◌, refl}
use Rattle.ddt_sockets.specs.laws.Tell.{tells_both}
use Rattle.ddt_loop.specs.Acts.{running}
use Rattle.ddt_loop.proofs.turn_loop.take_turn.Goals as goal

pub returns-clause-turn : goal.returns-clause-turn
returns-clause-turn g c =
    let w = c.poll_in_turn.ensures.polls in
    let t = c.resolve-heard.ensures.resolves in
    let midway = running c.poll_in_turn.new.resolver c.poll_in_turn.new.requesters in
    let moment = c.millis-millis.ensures.bound in (
      w.0 ++ t.0,
      tells_both _ w.0 _ t.0 _ w.1 t.1,
      record { is_moment = moment; polling = w.0; ticking = t.0; midway = midway; polls = w.2; ticks = t.2; calls_are = refl },
    )
