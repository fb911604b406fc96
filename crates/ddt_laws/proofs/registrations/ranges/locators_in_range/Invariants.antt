use Rattle.std.proofs.Common.{◌≡◌, true, take}
use Rattle.ddt_register.specs.Ranges.{are_locators}
use Rattle.ddt_laws.proofs.registrations.ranges.locators_in_range.Given as goal

abbrev pub invariant-loop-locator : goal.invariant-loop-locator
invariant-loop-locator l = are_locators (take l.locator-index l.locators) ≡ true
