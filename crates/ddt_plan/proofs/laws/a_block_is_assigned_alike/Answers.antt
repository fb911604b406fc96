use Rattle.ddt_plan.proofs.AlikeLemmas.{assigned_alike}
use Rattle.ddt_plan.proofs.laws.a_block_is_assigned_alike.Goals as goal

pub returns : goal.returns
returns c = assigned_alike
