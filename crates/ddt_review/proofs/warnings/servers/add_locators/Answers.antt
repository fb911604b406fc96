use Rattle.std.proofs.Common.{ℕ, Bool, cond, List, get_or, Option, Some, ap, ◌∙◌}
use Rattle.std.specs.Ordering.{is_eq}
use Rattle.std.specs.BTreeMap.{get}
use Rattle.std.proofs.lemmas.List.{take_all}
use Rattle.ddt_path.specs.declared.locator.Locator.{Locator}
use Rattle.ddt_path.specs.declared.locator.Locator.TheVariants.{V4}
use Rattle.ddt_path.specs.Locators.{lists, is_same_locator}
use Rattle.ddt_review.specs.Warnings.Found.{address_of, address_cmp}
use Rattle.ddt_review.proofs.WarningsLemmas.ServerLemmas.{same_address, locators_more}
use Rattle.ddt_review.proofs.warnings.servers.add_locators.Goals as goal

pub loop-locator-preserved : goal.loop-locator-preserved
loop-locator-preserved c = λ k.
    let row = c.args.group.now.row in
    let l : Locator = get_or c.as_slice-locator-items.result.now c.loop-locator.locator-index (V4 0) in
    c.in_ok-insert.ensures.updates.0 (address_of k)
    ∙ ap (λ (b : Bool). cond b (Some row) (get address_cmp c.loop-locator.rows (address_of k)))
    (ap (λ (a : ℕ × ℕ). is_eq (address_cmp a (address_of k))) c.address.ensures ∙ same_address l k)
    ∙ ap (λ (o : Option ℕ). cond (is_same_locator l k) (Some row) o) (c.loop-locator.invariant k)
    ∙ locators_more c.as_slice-locator-items.result.now c.loop-locator.locator-index (V4 0) c.loop-locator-test.true k (Some row)
    (get address_cmp c.args.rows.now (address_of k))

pub returns : goal.returns
returns c = λ l.
    c.loop-locator.invariant l
    ∙ ap (λ (ls : List Locator). cond (lists ls l) (Some c.args.group.now.row) (get address_cmp c.args.rows.now (address_of l)))
    (take_all c.loop-locator.locator-index c.as_slice-locator-items.result.now c.loop-locator-test.false
    ∙ c.as_slice-locator-items.ensures)
