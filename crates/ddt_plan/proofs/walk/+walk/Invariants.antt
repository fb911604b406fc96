use Rattle.std.proofs.Common.{◌-◌, length}
use Rattle.ddt_plan.proofs.walk.+walk.Given as goal

abbrev pub decreases-walk : goal.decreases-walk
decreases-walk g l = 161 - length l.whole
