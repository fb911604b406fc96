use Rattle.std.specs.Ordering.{nat_cmp}
use Rattle.std.specs.Cmp.Lexicographic.{slice_cmp}
use Rattle.std.specs.BTreeSet.{contains}
use Rattle.ddt_compile.specs.Lists.{list_at}
use Rattle.ddt_organisations.proofs.RunnerLemmas.{AreAdded}
use Rattle.ddt_organisations.proofs.organisations_by_group.add_groups.Given as goal

abbrev pub invariant-loop-name : goal.invariant-loop-name
invariant-loop-name l = AreAdded (contains (slice_cmp nat_cmp) l.organisation.groups) l.number
    (list_at (slice_cmp nat_cmp) l.initial.runners) l.name-iterator (list_at (slice_cmp nat_cmp) l.runners)
