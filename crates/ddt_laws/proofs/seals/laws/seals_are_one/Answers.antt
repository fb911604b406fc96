use Rattle.ddt_laws.proofs.SealsLemmas.SealLemmas.{one_seal}
use Rattle.ddt_laws.proofs.seals.laws.seals_are_one.Goals as goal

pub returns : goal.returns
returns c = one_seal
