use Rattle.std.proofs.Common.{[], refl, sym, ◌∙◌}
use Rattle.ddt_sockets.specs.laws.Tell.{tells_none}
use Rattle.ddt_map_server.specs.Turns.{limited, registers}
use Rattle.ddt_map_server.proofs.map_server.MapServer.admit.Goals as goal

pub returns-then-not-admits-clause-done : goal.returns-then-not-admits-clause-done
returns-then-not-admits-clause-done g c =
    rw (← c.self.view_is) ([], tells_none _, limited (sym c.admits.ensures.admitted ∙ c.if-not-admits.true) refl)

pub returns-in-Taken-clause-done : goal.returns-in-Taken-clause-done
returns-in-Taken-clause-done g c =
    let w = c.register-registered.ensures.registers in
    rw (← c.self.view_is) (w.0, w.1, registers (sym c.admits.ensures.admitted ∙ c.if-not-admits.false) w.0 c.register-registered.result w.2)

pub returns-in_default : goal.returns-in_default
returns-in_default g c =
    let w = c.register-registered.ensures.registers in
    rw (← c.self.view_is) (record {
      done = (w.0, w.1, registers (sym c.admits.ensures.admitted ∙ c.if-not-admits.false) w.0 c.register-registered.result w.2);
      counted = c.admits.ensures.counted;
      counts = refl;
      follows = c.register-registered.ensures.follows;
    })
