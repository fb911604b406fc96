use Rattle.std.proofs.Common.{◌++◌, ◌∙◌, sym}
use Rattle.ddt_node.specs.Server.{in_buffer}
use Rattle.ddt_sockets.specs.Turns.{reply_to, on_to_etr}
use Rattle.ddt_sockets.specs.laws.Tell.{tells_both}
use Rattle.ddt_sockets.specs.laws.Turn.{tried_both, reply_is_first}
use Rattle.ddt_sockets.proofs.server_turns.send_all.Goals as goal

pub returns : goal.returns
returns g c =
    let h = in_buffer c.args.reply.now c.args.sending.now in
    let one = c.send_reply-replied.ensures in
    let two = c.send_on.ensures in (
      one.0 ++ two.0,
      tells_both (g.W.Wires.calls c.args.wires.now) one.0 (g.W.Wires.calls c.send_reply-replied.new.wires) two.0
          (g.W.Wires.calls c.send_on.new.wires) one.1 two.1,
      tried_both c.args.at (reply_to c.args.packet h.reply) (on_to_etr h.forward) one.0 two.0 one.2 two.2,
      one.3 ∙ sym (reply_is_first c.args.at c.args.packet h.reply h.forward one.0 two.0 c.requires one.2 two.2),
    )
