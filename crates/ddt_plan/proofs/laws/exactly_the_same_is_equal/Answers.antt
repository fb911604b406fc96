use Rattle.ddt_plan.proofs.SameLemmas.{exact_is_equal}
use Rattle.ddt_plan.proofs.laws.exactly_the_same_is_equal.Goals as goal

pub returns : goal.returns
returns c = exact_is_equal
