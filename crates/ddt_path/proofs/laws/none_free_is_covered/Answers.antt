use Rattle.ddt_path.specs.laws.Hole.{none_free_covered}
use Rattle.ddt_path.proofs.laws.none_free_is_covered.Goals as goal

pub returns : goal.returns
returns c = λ authority keys x. none_free_covered authority keys x
