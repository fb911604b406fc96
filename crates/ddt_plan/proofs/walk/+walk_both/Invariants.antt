use Rattle.std.proofs.Common.{◌-◌, length}
use Rattle.ddt_plan.proofs.walk.+walk_both.Given as goal

abbrev pub decreases-walk_both : goal.decreases-walk_both
decreases-walk_both g l = 161 - length l.whole
