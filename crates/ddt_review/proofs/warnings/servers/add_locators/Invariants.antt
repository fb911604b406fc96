use Rattle.std.proofs.Common.{◌≡◌, cond, take, Some}
use Rattle.std.specs.BTreeMap.{get}
use Rattle.ddt_path.specs.declared.locator.Locator.{Locator}
use Rattle.ddt_path.specs.Locators.{lists}
use Rattle.ddt_review.specs.Warnings.Found.{address_of, address_cmp}
use Rattle.ddt_review.proofs.warnings.servers.add_locators.Given as goal

abbrev pub invariant-loop-locator : goal.invariant-loop-locator
invariant-loop-locator l = (k : Locator) → get address_cmp l.rows (address_of k)
    ≡ cond (lists (take l.locator-index l.locator-items) k) (Some l.group.row) (get address_cmp l.initial.rows (address_of k))
