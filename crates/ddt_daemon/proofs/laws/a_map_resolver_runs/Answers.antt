use Rattle.ddt_daemon.proofs.CameLemmas.{only_what_came}
use Rattle.ddt_daemon.proofs.RunLemmas.{runs_as, only_requests}
use Rattle.ddt_daemon.proofs.laws.a_map_resolver_runs.Goals as goal

pub returns-clause-runs : goal.returns-clause-runs
returns-clause-runs c = runs_as

pub returns-clause-onward : goal.returns-clause-onward
returns-clause-onward c = only_requests

pub returns-clause-looped : goal.returns-clause-looped
returns-clause-looped c = only_what_came
