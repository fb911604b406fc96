use Rattle.std.specs.BTreeMap.{get}
use Rattle.ddt_path.specs.Locators.{lists}
use Rattle.ddt_register.specs.declared.group.Group.{Group}
use Rattle.ddt_review.specs.Faults.Told.{locator_cmp}
use Rattle.ddt_review.proofs.FaultsLemmas.FirstLemmas.{first_more}
use Rattle.ddt_review.proofs.faults.first_items.first_of_locators.Goals as goal

pub loop-group-preserved : goal.loop-group-preserved
loop-group-preserved c = λ m.
    let g = c.group-item.result in
    first_more (λ (h : Group). h.row) (λ (h : Group). lists h.locators m) c.args.groups.now c.loop-group.group-index g
    c.loop-group-test.true c.group-item.is (get locator_cmp c.loop-group.first m)
    (get locator_cmp c.put_locators.new.first m) (c.loop-group.invariant m) (c.in_ok-put_locators.ensures m)
