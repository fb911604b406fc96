use Rattle.std.proofs.Common.{ℕ, List, [], refl, subst}
use Rattle.ddt_node.specs.declared.datagram.Handled.{Handled}
use Rattle.ddt_node.specs.Server.{in_buffer}
use Rattle.ddt_sockets.specs.Turns.{AreTried, sends_for, served, out_of_memory}
use Rattle.ddt_sockets.specs.laws.Tell.{tells_none}
use Rattle.ddt_sockets.proofs.server_turns.serve_packet.Goals as goal

pub returns-in-Ok : goal.returns-in-Ok
returns-in-Ok g c =
    let w = c.send_all.ensures in
    let tried = λ (h : Handled). AreTried c.args.at (sends_for c.args.packet h) w.0 in
    let of_reply = λ (reply : List ℕ). tried (in_buffer reply c.in-Ok.sending) in (
      w.0,
      w.1,
      served c.args.packet c.args.bytes.now w.0
          (subst tried c.in-Ok.ensures.handled (subst of_reply c.deref.ensures.value w.2)),
      w.3,
    )

pub returns-in-Err : goal.returns-in-Err
returns-in-Err g c = (
  [],
  tells_none (g.W.Wires.calls c.args.wires.now),
  out_of_memory c.args.packet c.args.bytes.now (λ none. let answered = c.in-Err.ensures.ignored none in cc),
  refl,
)
