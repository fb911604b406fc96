use Rattle.std.proofs.Common.{[]}
use Rattle.ddt_sockets.specs.laws.Tell.{tells_none}
use Rattle.ddt_map_server.specs.Registering.{refused, taken}
use Rattle.ddt_map_server.proofs.registering.take.Goals as goal

pub returns-in-Ok-clause-registers : goal.returns-in-Ok-clause-registers
returns-in-Ok-clause-registers g c =
    let w = c.acknowledge.ensures in
    (w.0, w.1, rw w.3 (taken c.requires.few c.args.message.now c.requires.read _ c.in-Ok.ensures.taken w.0 w.2))

pub returns-in-Err-clause-registers : goal.returns-in-Err-clause-registers
returns-in-Err-clause-registers g c =
    ([], tells_none _, refused c.requires.few c.args.message.now c.requires.read c.in-Err.refusal c.in-Err.ensures.refused c.in-Err.ensures.unchanged.0)
