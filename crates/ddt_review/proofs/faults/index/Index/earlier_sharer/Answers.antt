use Rattle.std.proofs.Common.{◌≡◌, ◌+◌, List, take, get_or, sym, ap, subst, ◌∙◌}
use Rattle.std.specs.Option.{option_copied}
use Rattle.std.proofs.lemmas.List.{take_all, get_or_default}
use Rattle.ddt_path.specs.declared.locator.Locator.{Locator}
use Rattle.ddt_path.specs.declared.locator.Locator.TheVariants.{V4}
use Rattle.ddt_review.proofs.FaultsLemmas.ShareLemmas.{IsLeastSharer, no_sharer, least_stays, least_falls, least_is_sharer}
use Rattle.ddt_review.proofs.FaultsLemmas.ToldLemmas.{then_is}
use Rattle.ddt_review.proofs.faults.index.Index.earlier_sharer.Goals as goal
use Rattle.ddt_review.proofs.faults.index.Index.earlier_sharer.Goals.{in-Some, in_default}

pub loop-locator-init : goal.loop-locator-init
loop-locator-init c = λ r index. no_sharer r c.args.group.now.row

pub loop-locator-preserved : goal.loop-locator-preserved
loop-locator-preserved c = λ r index.
    let ls = c.as_slice-locator-items.result.now in
    let i = c.loop-locator.locator-index in
    let lt = c.loop-locator-test.true in
    let n = c.args.group.now.row in
    let l = get_or ls i (V4 0) in
    let is = get_or_default ls i (V4 0) l lt in
    elim c.match-get.branch [
      | in-Some w ↦ subst (IsLeastSharer r n (take (i + 1) ls)) (sym (w.least-is ∙ w.min-least.ensures))
          (least_falls r n ls i l lt is c.loop-locator.least (c.loop-locator.invariant r index) w.in-Some.row.now
          (sym (ap option_copied w.in-Some.is) ∙ c.get.ensures.value ∙ index.locators l))
      | in_default w ↦ subst (IsLeastSharer r n (take (i + 1) ls)) (sym w.least-is)
          (least_stays r n ls i l lt is c.loop-locator.least (c.loop-locator.invariant r index)
          (sym (ap option_copied w.in_default.is) ∙ c.get.ensures.value ∙ index.locators l))
    ]

pub returns : goal.returns
returns c = λ r index.
    let g = c.args.group.now in
    let items = c.as_slice-locator-items.result.now in
    let all : take c.loop-locator.locator-index items ≡ g.locators =
    take_all c.loop-locator.locator-index items c.loop-locator-test.false ∙ c.as_slice-locator-items.ensures in
    c.then_some.ensures
    ∙ then_is _ c.loop-locator.least
    ∙ least_is_sharer r g c.loop-locator.least
    (subst (λ (ls : List Locator). IsLeastSharer r g.row ls c.loop-locator.least) all
    (c.loop-locator.invariant r index))
