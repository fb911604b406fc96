use Rattle.std.proofs.Common.{◌≡◌, Ok}
use Rattle.ddt_commands.proofs.commands.replay.script.read_ask.Goals as goal

pub returns-in-Err : goal.returns-in-Err
returns-in-Err c = λ x h.
    let read : c.parse_xeid.result ≡ Ok x = (c.parse_xeid.ensures.spelled x).1 h in
    cc
