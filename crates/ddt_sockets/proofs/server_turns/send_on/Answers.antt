use Rattle.std.proofs.Common.{[], ◌∷◌}
use Rattle.ddt_sockets.specs.declared.wire_calls.Call.TheVariants.{Tried}
use Rattle.ddt_ecm.specs.UdpHeader.{control_port}
use Rattle.ddt_sockets.specs.laws.Turn.{on_tried}
use Rattle.ddt_sockets.proofs.server_turns.send_on.Goals as goal

pub returns-in-Some : goal.returns-in-Some
returns-in-Some g c =
    let bytes = c.as_slice.result.now in (
      Tried c.args.at c.in-Some.forward.to control_port bytes c.send-sent.result ∷ [],
      c.send-sent.ensures.told,
      on_tried c.args.at c.args.sending.now.forward c.in-Some.forward bytes c.send-sent.result c.in-Some.is
          c.as_slice.ensures,
    )
