use Rattle.ddt_foreign.proofs.KnownLemmas.{few_known}
use Rattle.ddt_foreign.proofs.itr_rlocs.ItrRlocs.read.Goals as goal

pub returns-clause-few : goal.returns-clause-few
returns-clause-few c = few_known c.args.count c.args.bytes.now c.in_ok-rest.rest.now c.in_ok-rest.ensures.read
