use Rattle.std.proofs.Common.{◌≡◌, map, take}
use Rattle.ddt_check.specs.Fingerprints.{fingerprint, all_locators}
use Rattle.ddt_check.proofs.rules.fingerprints.fingerprints_of.Given as goal

abbrev pub invariant-loop-g : goal.invariant-loop-g
invariant-loop-g l = l.fingerprints.items ≡ map fingerprint (all_locators (take l.g-index l.groups))
