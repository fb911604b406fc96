use Rattle.std.proofs.Common.{ap, sym, refl, ◌∙◌}
use Rattle.ddt_map_server.specs.Counted.{with_registered}
use Rattle.ddt_map_server.specs.Turns.{served, registered}
use Rattle.ddt_map_server.proofs.TurnLemmas.{known_as}
use Rattle.ddt_map_server.proofs.map_server.MapServer.serve_datagram.Goals as goal

pub returns-then-is_map_register : goal.returns-then-is_map_register
returns-then-is_map_register g c =
    let e = rw (← c.self.view_is) at c.admit-registered.ensures in
    let w = rw c.requires at e.done in
    let told = c.admit-registered.result in
    λ c' f. (
      e.follows c' f,
      w.0,
      w.1,
      registered c.args.datagram.now.packet c.args.datagram.now.bytes.now w.0 told c.self.inside.registrar
          (sym c.is_map_register.ensures ∙ c.if-is_map_register.true) w.2
          (known_as c.self.inside.registrar _ _ _ _ e.counted (c.count.ensures ∙ ap (λ k. with_registered k told) e.counts)),
    )

pub returns-else-is_map_register : goal.returns-else-is_map_register
returns-else-is_map_register g c =
    let w = c.serve_packet-done.ensures in
    rw (← c.self-else-is_map_register.view_is) (λ c' f. (
      f,
      w.0,
      w.1,
      served _ (sym c.is_map_register.ensures ∙ c.if-is_map_register.false) (rw f at w.2) refl,
    ))
