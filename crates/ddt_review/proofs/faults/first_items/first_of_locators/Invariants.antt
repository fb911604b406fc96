use Rattle.std.proofs.Common.{◌≡◌, take}
use Rattle.std.specs.BTreeMap.{get}
use Rattle.ddt_path.specs.declared.locator.Locator.{Locator}
use Rattle.ddt_path.specs.Locators.{lists}
use Rattle.ddt_register.specs.declared.group.Group.{Group}
use Rattle.ddt_register.specs.Rows.{first_row}
use Rattle.ddt_review.specs.Faults.Told.{locator_cmp}
use Rattle.ddt_review.proofs.faults.first_items.first_of_locators.Given as goal

abbrev pub invariant-loop-group : goal.invariant-loop-group
invariant-loop-group l =
    (m : Locator) → get locator_cmp l.first m
    ≡ first_row (λ (g : Group). g.row) (λ (g : Group). lists g.locators m) (take l.group-index l.groups)
