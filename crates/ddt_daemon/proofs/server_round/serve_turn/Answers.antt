use Rattle.std.proofs.Common.{◌≡◌, ℕ, [], ◌∷◌, length, subst, arith, refl}
use Rattle.std.specs.Prelude.{None, Ok, Err}
use Rattle.ddt_sockets.specs.declared.wire_calls.Call.TheVariants.{Received}
use Rattle.ddt_sockets.specs.Calls.{RecordsCalls}
use Rattle.ddt_sockets.specs.Turns.{most_bytes}
use Rattle.ddt_daemon.specs.ServerTurns.{no_packet, failed}
use Rattle.ddt_daemon.proofs.server_round.serve_turn.Goals as goal

pub returns-in-Ok-None-clause-turn : goal.returns-in-Ok-None-clause-turn
returns-in-Ok-None-clause-turn g c =
    let room : length c.receive.new.buffer ≡ most_bytes = omega (arith, c.receive.auto.buffer, c.requires) in
    let told = λ (n : ℕ). RecordsCalls (g.W.Wires.calls c.args.wires.now) (Received c.args.door.now.at n (Ok None) [] ∷ [])
    (g.W.Wires.calls c.receive.new.self) in (
      Received c.args.door.now.at most_bytes (Ok None) [] ∷ [],
      subst told room (rw c.in-Ok-None.field-0-is at c.in-Ok-None.ensures.told),
      no_packet,
      refl,
    )

pub returns-in-Err-clause-turn : goal.returns-in-Err-clause-turn
returns-in-Err-clause-turn g c =
    let room : length c.receive.new.buffer ≡ most_bytes = omega (arith, c.receive.auto.buffer, c.requires) in
    let told = λ (n : ℕ). RecordsCalls (g.W.Wires.calls c.args.wires.now) (Received c.args.door.now.at n (Err c.in-Err._fault) [] ∷ [])
    (g.W.Wires.calls c.receive.new.self) in (
      Received c.args.door.now.at most_bytes (Err c.in-Err._fault) [] ∷ [],
      subst told room c.in-Err.ensures.told,
      failed c.in-Err._fault,
      refl,
    )
