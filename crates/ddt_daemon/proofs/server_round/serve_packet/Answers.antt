use Rattle.std.proofs.Common.{[], sym, ◌∙◌}
use Rattle.ddt_sockets.specs.laws.Tell.{tells_none}
use Rattle.ddt_daemon.proofs.TurnLemmas.{unread}
use Rattle.ddt_daemon.proofs.server_round.serve_packet.Goals as goal

pub returns-in-Err-UnrecognizedAfi : goal.returns-in-Err-UnrecognizedAfi
returns-in-Err-UnrecognizedAfi g c = (
  [],
  tells_none _,
  unread _ _ _ c.args.packet c.args.bytes.now (sym c.read_foreign_request.ensures.exact ∙ c.in-Err-UnrecognizedAfi.is),
)

pub returns-in-Err : goal.returns-in-Err
returns-in-Err g c = ([], tells_none _, unread _ _ _ c.args.packet c.args.bytes.now (sym c.read_foreign_request.ensures.exact ∙ c.in-Err.is))
