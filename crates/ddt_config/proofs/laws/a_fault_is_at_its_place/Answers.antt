use Rattle.ddt_config.proofs.FaultLemmas.{faults_are_at_their_places}
use Rattle.ddt_config.proofs.laws.a_fault_is_at_its_place.Goals as goal

pub returns : goal.returns
returns c = faults_are_at_their_places
