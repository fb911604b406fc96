use Rattle.std.proofs.Common.{◌+◌, take, get_or, sym}
use Rattle.std.specs.BTreeMap.{get}
use Rattle.std.proofs.lemmas.List.Folds.{list_any_more}
use Rattle.ddt_path.specs.declared.locator.Locator.{Locator}
use Rattle.ddt_path.specs.declared.locator.Locator.TheVariants.{V4}
use Rattle.ddt_path.specs.Locators.{is_same_locator, lists}
use Rattle.ddt_review.specs.Faults.Told.{locator_cmp}
use Rattle.ddt_review.proofs.FaultsLemmas.FirstLemmas.{or_none, locators_more, put_locator}
use Rattle.ddt_review.proofs.faults.first_items.put_locators.Goals as goal

pub loop-locator-init : goal.loop-locator-init
loop-locator-init c = λ m. sym (or_none _)

pub loop-locator-preserved : goal.loop-locator-preserved
loop-locator-preserved c = λ m.
    let ls = c.as_slice-locator-items.result.now in
    let i = c.loop-locator.locator-index in
    let l = get_or ls i (V4 0) in
    let row = c.args.group.now.row in
    let old = get locator_cmp c.loop-locator.first in
    let new = get locator_cmp c.put_first.new.map in
    locators_more (get locator_cmp c.args.first.now m) (old m) (new m) row (lists (take i ls) m) (is_same_locator l m)
    (lists (take (i + 1) ls) m) (c.loop-locator.invariant m)
    (put_locator old new l row c.in_ok-put_first.ensures.here c.in_ok-put_first.ensures.elsewhere m)
    (list_any_more (λ (k : Locator). is_same_locator k m) ls i (V4 0) c.loop-locator-test.true)
