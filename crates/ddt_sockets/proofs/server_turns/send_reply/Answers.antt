use Rattle.std.proofs.Common.{◌≡◌, Some, [], ◌∷◌, rules}
use Rattle.ddt_node.specs.Server.{in_buffer}
use Rattle.ddt_sockets.specs.declared.wire_calls.Call.TheVariants.{Tried}
use Rattle.ddt_sockets.specs.laws.Turn.{reply_tried}
use Rattle.ddt_sockets.proofs.server_turns.send_reply.Goals as goal

pub returns : goal.returns
returns g c =
    let bytes = c.args.reply.now in
    let some : (in_buffer bytes c.args.sending.now).reply ≡ Some bytes = search (rules, c.if-not-sending.false) in (
      Tried c.args.at c.args.packet.from c.args.packet.port bytes c.send-sent.result ∷ [],
      c.send-sent.ensures.told,
      reply_tried c.args.at c.args.packet (in_buffer bytes c.args.sending.now).reply bytes c.send-sent.result some,
      c.is_ok.ensures.value,
    )
