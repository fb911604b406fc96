use Rattle.ddt_laws.proofs.NoncesLemmas.LiftLemmas.{replies_awaited}
use Rattle.ddt_laws.proofs.nonces.laws.lifted_replies_were_asked.Goals as goal

pub returns : goal.returns
returns c = replies_awaited
