use Rattle.std.proofs.Common.{ℕ, Bool, true, cond, List, get_or, take, sym, ap, ◌∙◌}
use Rattle.std.specs.Ordering.{is_eq}
use Rattle.std.specs.BTreeSet.{contains}
use Rattle.std.proofs.lemmas.List.{take_all}
use Rattle.std.proofs.lemmas.List.Folds.{list_any_more}
use Rattle.ddt_path.specs.declared.locator.Locator.{Locator}
use Rattle.ddt_path.specs.declared.locator.Locator.TheVariants.{V4}
use Rattle.ddt_path.specs.Locators.{lists, is_same_locator}
use Rattle.ddt_review.specs.Warnings.Found.{address_of, address_cmp}
use Rattle.ddt_review.proofs.WarningsLemmas.ServerLemmas.{same_address}
use Rattle.ddt_review.proofs.WarningsLemmas.DelegationLemmas.{or_cond}
use Rattle.ddt_review.proofs.warnings.servers.addresses.Goals as goal

pub loop-locator-preserved : goal.loop-locator-preserved
loop-locator-preserved c = λ k.
    let ls = c.args.locators.now in
    let i = c.loop-locator.locator-index in
    let l : Locator = get_or ls i (V4 0) in
    let before = contains address_cmp c.loop-locator.addresses (address_of k) in
    c.in_ok-insert.ensures.updates.0 (address_of k)
    ∙ ap (λ (b : Bool). cond b true before)
    (ap (λ (a : ℕ × ℕ). is_eq (address_cmp a (address_of k))) c.address.ensures ∙ same_address l k)
    ∙ ap (λ (b : Bool). cond (is_same_locator l k) true b) (c.loop-locator.invariant k)
    ∙ or_cond (is_same_locator l k) (lists (take i ls) k)
    ∙ sym (list_any_more (λ (m : Locator). is_same_locator m k) ls i (V4 0) c.loop-locator-test.true)

pub returns : goal.returns
returns c = λ k.
    c.loop-locator.invariant k
    ∙ ap (λ (ls : List Locator). lists ls k) (take_all c.loop-locator.locator-index c.args.locators.now c.loop-locator-test.false)
