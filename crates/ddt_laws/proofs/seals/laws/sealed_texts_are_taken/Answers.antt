use Rattle.ddt_laws.proofs.SealsLemmas.SealLemmas.{taken}
use Rattle.ddt_laws.proofs.seals.laws.sealed_texts_are_taken.Goals as goal

pub returns : goal.returns
returns c = taken
