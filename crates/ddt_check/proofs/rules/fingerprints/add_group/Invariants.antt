use Rattle.std.proofs.Common.{◌≡◌, ◌++◌, map, take}
use Rattle.ddt_check.specs.Fingerprints.{fingerprint}
use Rattle.ddt_check.proofs.rules.fingerprints.add_group.Given as goal

abbrev pub invariant-loop-l : goal.invariant-loop-l
invariant-loop-l l = l.fingerprints.items
    ≡ l.initial.fingerprints.items ++ map fingerprint (take l.l-index l.l-items)
