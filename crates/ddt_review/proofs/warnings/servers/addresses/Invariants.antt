use Rattle.std.proofs.Common.{◌≡◌, take}
use Rattle.std.specs.BTreeSet.{contains}
use Rattle.ddt_path.specs.declared.locator.Locator.{Locator}
use Rattle.ddt_path.specs.Locators.{lists}
use Rattle.ddt_review.specs.Warnings.Found.{address_of, address_cmp}
use Rattle.ddt_review.proofs.warnings.servers.addresses.Given as goal

abbrev pub invariant-loop-locator : goal.invariant-loop-locator
invariant-loop-locator l = (k : Locator)
    → contains address_cmp l.addresses (address_of k) ≡ lists (take l.locator-index l.locators) k
