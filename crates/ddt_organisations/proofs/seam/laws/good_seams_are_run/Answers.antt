use Rattle.ddt_organisations.proofs.SeamLemmas.SideLemmas.{good_run}
use Rattle.ddt_organisations.proofs.seam.laws.good_seams_are_run.Goals as goal

pub returns : goal.returns
returns c = good_run
