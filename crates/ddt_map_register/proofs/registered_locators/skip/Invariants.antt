use Rattle.std.proofs.Common.{◌-◌}
use Rattle.ddt_map_register.specs.RegisteredLocator.{locator_at}
use Rattle.ddt_foreign.proofs.SeveralLemmas.{IsReadSoFar}
use Rattle.ddt_map_register.proofs.registered_locators.skip.Given as goal

abbrev pub invariant-loop : goal.invariant-loop
invariant-loop l = IsReadSoFar locator_at l.count l.bytes (l.count - l.counter) l.rest
