use Rattle.ddt_laws.proofs.NoncesLemmas.FairLemmas.{fair_translated}
use Rattle.ddt_laws.proofs.NoncesLemmas.OweLemmas.{owed_translated}
use Rattle.ddt_laws.proofs.nonces.laws.translated_packets_are_fair.Goals as goal

pub returns-clause-fair : goal.returns-clause-fair
returns-clause-fair c = fair_translated

pub returns-clause-owed : goal.returns-clause-owed
returns-clause-owed c = owed_translated
