use Rattle.std.proofs.Common.{[], ◌∷◌, refl, ◌∙◌}
use Rattle.ddt_sockets.specs.declared.wire_calls.Call.TheVariants.{Tried}
use Rattle.ddt_ecm.specs.UdpHeader.{control_port}
use Rattle.ddt_daemon.proofs.etr_forward.send_to.Goals as goal

pub returns : goal.returns
returns g c =
    let bytes = c.as_slice.result.now in (
      Tried c.args.me c.args.to control_port bytes c.send-sent.result ∷ [],
      c.send-sent.ensures.told,
      ((refl, refl, refl, c.as_slice.ensures ∙ c.with_d-datagram.ensures), tt),
      c.is_ok.ensures.value,
    )
