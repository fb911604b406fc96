use Rattle.std.proofs.Common.{◌≡◌, ℕ, [], ◌∷◌, length, subst, arith}
use Rattle.std.specs.Prelude.{None, Ok, Err}
use Rattle.ddt_sockets.specs.declared.wire_calls.Call.TheVariants.{Received}
use Rattle.ddt_sockets.specs.Calls.{RecordsCalls}
use Rattle.ddt_sockets.specs.Turns.{most_bytes, no_packet, failed}
use Rattle.ddt_sockets.proofs.server_turns.serve_turn.Goals as goal

pub returns-in-Ok-None : goal.returns-in-Ok-None
returns-in-Ok-None g c =
    let room : length c.receive.new.buffer ≡ most_bytes = omega (arith, c.receive.auto.buffer, c.requires) in
    let told = λ (n : ℕ). RecordsCalls (g.W.Wires.calls c.args.wires.now) (Received c.args.at n (Ok None) [] ∷ [])
    (g.W.Wires.calls c.receive.new.self) in (
      Received c.args.at most_bytes (Ok None) [] ∷ [],
      subst told room (rw c.in-Ok-None.field-0-is at c.in-Ok-None.ensures.told),
      no_packet,
      c.default.ensures.0,
      c.default.ensures.1,
    )

pub returns-in-Err : goal.returns-in-Err
returns-in-Err g c =
    let room : length c.receive.new.buffer ≡ most_bytes = omega (arith, c.receive.auto.buffer, c.requires) in
    let told = λ (n : ℕ). RecordsCalls (g.W.Wires.calls c.args.wires.now) (Received c.args.at n (Err c.in-Err._fault) [] ∷ [])
    (g.W.Wires.calls c.receive.new.self) in (
      Received c.args.at most_bytes (Err c.in-Err._fault) [] ∷ [],
      subst told room c.in-Err.ensures.told,
      failed c.in-Err._fault,
      c.default-in-Err.ensures.0,
      c.default-in-Err.ensures.1,
    )
