use Rattle.std.proofs.Common.{[], refl, sym, ◌∙◌, arith}
use Rattle.ddt_sockets.specs.laws.Tell.{tells_none}
use Rattle.ddt_map_server.specs.Registering.{too_long, malformed}
use Rattle.ddt_map_server.proofs.registering.register.Goals as goal

pub returns-then-datagram-gt-MOST_BYTES-clause-registers : goal.returns-then-datagram-gt-MOST_BYTES-clause-registers
returns-then-datagram-gt-MOST_BYTES-clause-registers g c = ([], tells_none _, too_long (omega (arith, c.if-datagram-gt-MOST_BYTES.true)) refl)

pub returns-in-Err-clause-registers : goal.returns-in-Err-clause-registers
returns-in-Err-clause-registers g c = (
  [],
  tells_none _,
  malformed (omega (arith, c.if-datagram-gt-MOST_BYTES.false)) c.in-Err.fault (sym c.in-Err.ensures.exact) refl,
)
