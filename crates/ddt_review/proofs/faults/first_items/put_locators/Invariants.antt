use Rattle.std.proofs.Common.{◌≡◌, cond, take, Some, None}
use Rattle.std.specs.Option.{option_or}
use Rattle.std.specs.BTreeMap.{get}
use Rattle.ddt_path.specs.declared.locator.Locator.{Locator}
use Rattle.ddt_path.specs.Locators.{lists}
use Rattle.ddt_review.specs.Faults.Told.{locator_cmp}
use Rattle.ddt_review.proofs.faults.first_items.put_locators.Given as goal

abbrev pub invariant-loop-locator : goal.invariant-loop-locator
invariant-loop-locator l =
    (m : Locator) → get locator_cmp l.first m
    ≡ option_or (get locator_cmp l.initial.first m)
    (cond (lists (take l.locator-index l.locator-items) m) (Some l.group.row) None)
