use Rattle.std.proofs.Common.{[], ◌∷◌, refl}
use Rattle.ddt_sockets.specs.declared.wire_calls.Call.TheVariants.{Tried}
use Rattle.ddt_daemon.proofs.sending.send_one.Goals as goal

pub returns-in-Some : goal.returns-in-Some
returns-in-Some g c =
    let bytes = c.as_slice.result.now in (
      Tried c.args.at c.in-Some.datagram.to c.in-Some.datagram.port bytes c.send-sent.result ∷ [],
      c.send-sent.ensures.told,
      rw c.in-Some.is ((refl, refl, refl, c.as_slice.ensures), tt),
      c.is_ok.ensures.value,
    )
