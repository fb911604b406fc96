use Rattle.ddt_foreign.proofs.RequestLemmas.{requests_stay, only_ddt_changes, first_is_looked_up, rlocs_are_few}
use Rattle.ddt_foreign.proofs.laws.foreign_request_laws.Goals as goal

pub returns-clause-stay : goal.returns-clause-stay
returns-clause-stay c = requests_stay

pub returns-clause-ddt : goal.returns-clause-ddt
returns-clause-ddt c = only_ddt_changes

pub returns-clause-first : goal.returns-clause-first
returns-clause-first c = first_is_looked_up

pub returns-clause-few : goal.returns-clause-few
returns-clause-few c = rlocs_are_few
