use Rattle.std.proofs.Common.{◌≡◌, ◌+◌, ◌≤◌, length}
use Rattle.std.specs.Prelude.{filter_map}
use Rattle.ddt_registrar.specs.Registration.{etr_of, etrs_in}
use Rattle.ddt_registrar.proofs.register_checks.has_few_etrs.Given as goal

abbrev pub invariant-loop-locator : goal.invariant-loop-locator
invariant-loop-locator l = (l.count + length (filter_map etr_of l.rest) ≡ length (etrs_in l.record)) × (l.count ≤ 8)

abbrev pub decreases-loop-locator : goal.decreases-loop-locator
decreases-loop-locator l = length l.rest
