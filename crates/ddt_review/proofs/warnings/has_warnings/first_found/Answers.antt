use Rattle.std.proofs.Common.{◌∙◌, sym, ap, refl}
use Rattle.std.specs.List.{list_any}
use Rattle.std.proofs.lemmas.Fn.{says_at}
use Rattle.std.proofs.lemmas.List.{take_all}
use Rattle.ddt_review.proofs.WarningsLemmas.FoundLemmas.{first_is, first_at, none_more}
use Rattle.ddt_review.proofs.warnings.has_warnings.first_found.Goals as goal

pub returns-then-is_some-clause-found : goal.returns-then-is_some-clause-found
returns-then-is_some-clause-found g c = λ has kind h.
    first_is has kind c.args.locators.now c.loop-locator.locator-index _ c.find-found.result c.loop-locator-test.true
    (h _ c.find-found.result (says_at g.F.Fn c.find-found.ensures refl)) (sym c.is_some.ensures ∙ c.if-is_some.true)

pub loop-locator-preserved : goal.loop-locator-preserved
loop-locator-preserved g c = λ has kind h.
    none_more has kind c.args.locators.now c.loop-locator.locator-index _ c.find-found.result c.loop-locator-test.true
    (h _ c.find-found.result (says_at g.F.Fn c.find-found.ensures refl)) (sym c.is_some.ensures ∙ c.if-is_some.false)
    (c.loop-locator.invariant has kind h)

pub returns-then-is_some-clause-first : goal.returns-then-is_some-clause-first
returns-then-is_some-clause-first g c = λ has kind h.
    let says = says_at g.F.Fn c.find-found.ensures refl in
    first_at g.F.Fn c.args.find has c.args.locators.now kind c.loop-locator.locator-index _ c.find-found.result
    c.loop-locator-test.true says (h _ c.find-found.result says) (c.loop-locator.invariant has kind h)

pub returns-clause-found : goal.returns-clause-found
returns-clause-found g c = λ has kind h.
    ap (list_any has) (sym (take_all c.loop-locator.locator-index c.args.locators.now c.loop-locator-test.false))
    ∙ c.loop-locator.invariant has kind h
