use Rattle.std.proofs.Common.{◌≡◌, ℕ, [], ◌∷◌, length, take, subst, arith, refl, Ok, Err, Some, None}
use Rattle.ddt_sockets.specs.declared.wire_calls.Call.TheVariants.{Received}
use Rattle.ddt_sockets.specs.Calls.{RecordsCalls}
use Rattle.ddt_sockets.specs.Turns.{most_bytes}
use Rattle.ddt_sockets.specs.laws.Tell.{tells_both, tells_none}
use Rattle.ddt_loop.specs.Polls.{polled}
use Rattle.ddt_daemon.specs.Rounds.{no_packet, failed, came}
use Rattle.ddt_daemon.proofs.map_resolver.MapResolver.receive.Goals as goal

pub returns-in-Ok-Some-clause-round : goal.returns-in-Ok-Some-clause-round
returns-in-Ok-Some-clause-round g c =
    let w = c.handle_packet.ensures in
    let bytes = take c.in-Ok-Some.packet.len c.receive.new.buffer in
    let room : length c.receive.new.buffer ≡ most_bytes = omega (arith, c.receive.auto.buffer, c.requires) in
    let first = polled c.args.me (Ok (Some c.in-Ok-Some.packet)) bytes in
    let told = λ (n : ℕ). RecordsCalls (g.W.Wires.calls c.args.near.now)
    (Received c.args.me n (Ok (Some c.in-Ok-Some.packet)) bytes ∷ []) (g.W.Wires.calls c.receive.new.self) in (
      first ∷ w.0,
      w.1,
      tells_both (g.W.Wires.calls c.args.near.now) (first ∷ []) (g.W.Wires.calls c.receive.new.self) w.0
          (g.W.Wires.calls c.handle_packet.new.near) (subst told room (rw c.in-Ok-Some.field-0-is at c.in-Ok-Some.ensures.told)) w.2,
      w.3,
      search,
      came c.in-Ok-Some.packet bytes w.0 refl w.4,
    )

pub returns-in-Ok-None-clause-round : goal.returns-in-Ok-None-clause-round
returns-in-Ok-None-clause-round g c =
    let room : length c.receive.new.buffer ≡ most_bytes = omega (arith, c.receive.auto.buffer, c.requires) in
    let told = λ (n : ℕ). RecordsCalls (g.W.Wires.calls c.args.near.now) (Received c.args.me n (Ok None) [] ∷ [])
    (g.W.Wires.calls c.receive.new.self) in (
      polled c.args.me (Ok None) [] ∷ [],
      [],
      subst told room (rw c.in-Ok-None.field-0-is at c.in-Ok-None.ensures.told),
      tells_none (g.V.Wires.calls c.args.far.now),
      search,
      no_packet refl refl refl,
    )

pub returns-in-Err-clause-round : goal.returns-in-Err-clause-round
returns-in-Err-clause-round g c =
    let room : length c.receive.new.buffer ≡ most_bytes = omega (arith, c.receive.auto.buffer, c.requires) in
    let told = λ (n : ℕ). RecordsCalls (g.W.Wires.calls c.args.near.now) (Received c.args.me n (Err c.in-Err._fault) [] ∷ [])
    (g.W.Wires.calls c.receive.new.self) in (
      polled c.args.me (Err c.in-Err._fault) [] ∷ [],
      [],
      subst told room c.in-Err.ensures.told,
      tells_none (g.V.Wires.calls c.args.far.now),
      search,
      failed c.in-Err._fault refl refl refl,
    )
