use Rattle.ddt_check.specs.Fingerprints.{all_locators}
use Rattle.ddt_check.proofs.FingerprintLemmas.{distinct_by_fingerprints}
use Rattle.ddt_check.proofs.rules.fingerprints.are_told_apart.Goals as goal

pub returns-in-Ok : goal.returns-in-Ok
returns-in-Ok c = λ e. distinct_by_fingerprints (all_locators c.args.groups.now)
    (rw (c.deref_mut.ensures.value, c.in-Ok.ensures) at (c.are_different.ensures.0 e))
