use Rattle.std.proofs.Common.{◌≡◌, ◌++◌, map}
use Rattle.ddt_organisations.specs.Faults.{pair_with}
use Rattle.ddt_organisations.proofs.seam_pairs.push_pairs.Given as goal

abbrev pub invariant-loop-other : goal.invariant-loop-other
invariant-loop-other l = l.pairs.items ++ map (pair_with l.number) l.other-iterator
    ≡ l.initial.pairs.items ++ map (pair_with l.number) l.others.keys
