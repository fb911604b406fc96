use Rattle.ddt_resolver.proofs.ReplyLemmas.{tickets_new}
use Rattle.ddt_resolver.proofs.laws.tickets_are_new.Goals as goal

pub returns : goal.returns
returns c = tickets_new
