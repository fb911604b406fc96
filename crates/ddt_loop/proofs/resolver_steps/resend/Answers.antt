use Rattle.std.proofs.Common.{[], ◌∷◌, refl}
use Rattle.ddt_sockets.specs.declared.wire_calls.Call.TheVariants.{Tried}
use Rattle.ddt_ecm.specs.UdpHeader.{control_port}
use Rattle.ddt_loop.specs.Acts.{again}
use Rattle.ddt_loop.proofs.resolver_steps.resend.Goals as goal

pub asked_server-server-requires : goal.asked_server-server-requires
asked_server-server-requires g c = (c.in_order.ensures.lookups _ _ c.in-Some.ensures.found).lookup.place

pub returns : goal.returns
returns g c = (
  Tried c.args.me c.asked_server-server.result control_port c.deref.result.now c.send-sent.result ∷ [],
  c.send-sent.ensures.told,
  again c.in-Some._ticket c.in-Some.lookup c.send-sent.result c.in-Some.ensures.found c.in-Some.ensures.nonce
      (rw (c.asked_server-server.ensures c.args.me, c.deref.ensures.value, c.in-Ok.ensures) refl),
)
