use Rattle.std.proofs.Common.{◌++◌}
use Rattle.ddt_sockets.specs.laws.Tell.{tells_both}
use Rattle.ddt_sockets.specs.laws.Turn.{tried_both}
use Rattle.ddt_loop.specs.Acts.{sent_if}
use Rattle.ddt_daemon.proofs.sending.send_all.Goals as goal

pub returns : goal.returns
returns g c =
    let one = c.send_one-replied.ensures in
    let two = c.send_one.ensures in (
      one.0 ++ two.0,
      tells_both (g.W.Wires.calls c.args.wires.now) one.0 (g.W.Wires.calls c.send_one-replied.new.wires) two.0
          (g.W.Wires.calls c.send_one.new.wires) one.1 two.1,
      tried_both c.args.at (sent_if c.args.sending.now.reply) (sent_if c.args.sending.now.onward) one.0 two.0 one.2 two.2,
    )
