use Rattle.std.proofs.Common.{take}
use Rattle.std.specs.Ordering.{nat_cmp}
use Rattle.std.specs.Cmp.Lexicographic.{slice_cmp}
use Rattle.ddt_compile.specs.Lists.{list_at}
use Rattle.ddt_organisations.specs.Found.{HaveRunners}
use Rattle.ddt_organisations.proofs.organisations_by_group.runners_of.Given as goal

abbrev pub invariant-loop-number : goal.invariant-loop-number
invariant-loop-number l = HaveRunners (take l.number l.all) (list_at (slice_cmp nat_cmp) l.runners)
