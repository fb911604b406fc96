use Rattle.std.proofs.Common.{inr, sym}
use Rattle.ddt_commands.proofs.commands.show.request_in.Goals as goal

pub returns-in_ok-request_line-in-Ok-clause-text : goal.returns-in_ok-request_line-in-Ok-clause-text
returns-in_ok-request_line-in-Ok-clause-text c = inr (inr (c.in-Ok.request, sym c.in-Ok.ensures.exact, c.in_ok-request_line-in-Ok.ensures))
