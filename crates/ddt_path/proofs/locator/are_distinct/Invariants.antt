use Rattle.std.proofs.Common.{◌≡◌, length}
use Rattle.ddt_path.specs.Locators.{are_distinct}
use Rattle.ddt_path.proofs.locator.are_distinct.Given as goal

abbrev pub invariant-loop-rest : goal.invariant-loop-rest
invariant-loop-rest l = are_distinct l.rest ≡ are_distinct l.locators

abbrev pub decreases-loop-rest : goal.decreases-loop-rest
decreases-loop-rest l = length l.rest
