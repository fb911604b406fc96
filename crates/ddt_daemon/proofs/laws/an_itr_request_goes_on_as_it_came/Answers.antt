use Rattle.ddt_daemon.proofs.OnwardLemmas.{still_request, goes_on}
use Rattle.ddt_daemon.proofs.laws.an_itr_request_goes_on_as_it_came.Goals as goal

pub returns-clause-request : goal.returns-clause-request
returns-clause-request c = still_request

pub returns-clause-goes_on : goal.returns-clause-goes_on
returns-clause-goes_on c = goes_on
