use Rattle.ddt_path.specs.laws.Hole.{member_covers_none}
use Rattle.ddt_path.proofs.laws.no_hole_under_a_key.Goals as goal

pub returns : goal.returns
returns c = member_covers_none
