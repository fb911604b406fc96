use Rattle.std.proofs.Common.{refl, ◌∙◌}
use Rattle.ddt_check.specs.declared.fault.Rule.TheVariants.{Locators}
use Rattle.ddt_review.proofs.FaultsLemmas.ToldLemmas.{fault_same, told_locators}
use Rattle.ddt_review.proofs.faults.index.Index.wrong_locators.Goals as goal

pub returns : goal.returns
returns c = λ r index.
    let g = c.args.group.now in
    let earlier = c.earlier_sharer-earlier.result in
    c.fault_if.ensures
    ∙ fault_same _ _ g.row g.row Locators earlier earlier c.are_wrong-breaks.ensures refl refl
    ∙ told_locators r g _ _ earlier refl refl (c.earlier_sharer-earlier.ensures r index)
