use Rattle.ddt_deploy.proofs.FoldersLemmas.AlikeLemmas.{order_does_not_matter}
use Rattle.ddt_deploy.proofs.folders.laws.the_order_of_rows_does_not_matter.Goals as goal

pub returns : goal.returns
returns c = order_does_not_matter
