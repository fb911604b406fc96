use Rattle.std.proofs.Common.{[], ◌∷◌, refl}
use Rattle.ddt_ecm.specs.UdpHeader.{control_port}
use Rattle.ddt_sockets.specs.declared.wire_calls.Call.TheVariants.{Tried}
use Rattle.ddt_map_server.proofs.registering.acknowledge.Goals as goal

pub returns-in-Some : goal.returns-in-Some
returns-in-Some g c = (
  Tried c.args.datagram.now.at c.args.datagram.now.packet.from control_port c.as_slice.result.now c.send-sent.result ∷ [],
  c.send-sent.ensures.told,
  rw c.in-Some.is ((refl, refl, refl, c.as_slice.ensures.value), tt),
  c.is_ok.ensures.value,
)
