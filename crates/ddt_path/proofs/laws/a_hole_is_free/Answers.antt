use Rattle.ddt_path.specs.laws.Hole.{hole_is_free}
use Rattle.ddt_path.proofs.laws.a_hole_is_free.Goals as goal

pub returns : goal.returns
returns c = hole_is_free
