use Rattle.ddt_path.specs.laws.Hole.{hole_of_all}
use Rattle.ddt_path.proofs.laws.one_hole_for_all_it_covers.Goals as goal

pub returns : goal.returns
returns c = hole_of_all
