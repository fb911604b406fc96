use Rattle.ddt_deploy.proofs.FoldersLemmas.PublishLemmas.{plans_publish}
use Rattle.ddt_deploy.proofs.folders.laws.a_plan_that_is_carried_out_publishes.Goals as goal

pub returns : goal.returns
returns c = plans_publish
