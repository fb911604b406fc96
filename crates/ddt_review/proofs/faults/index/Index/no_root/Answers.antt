use Rattle.std.proofs.Common.{refl, sym, ap, ◌∙◌}
use Rattle.std.specs.Option.{option_copied}
use Rattle.ddt_review.proofs.FaultsLemmas.ToldLemmas.{fault_same, no_root_told, other_root_none, other_root_told, then_is}
use Rattle.ddt_review.proofs.faults.index.Index.no_root.Goals as goal

pub returns-in_default : goal.returns-in_default
returns-in_default c = λ r index at.
    c.fault_if.ensures ∙ no_root_told r c.args.row (sym c.in_default.is ∙ index.root)

pub returns-in_err-zone : goal.returns-in_err-zone
returns-in_err-zone c = λ r index at.
    c.from_residual.ensures
    ∙ other_root_none r c.args.row c.in-Some.root (sym c.in-Some.is ∙ index.root)
    (sym at ∙ ap option_copied c.in_err-zone.was)

pub returns : goal.returns
returns c = λ r index at.
    let z = c.in_ok-zone.zone.now in
    let earlier = c.then_some-earlier.result in
    c.fault_if-2.ensures
    ∙ fault_same _ _ c.args.row c.args.row _ earlier earlier c.is_wrong_root.ensures refl refl
    ∙ other_root_told r c.args.row c.in-Some.root (sym c.in-Some.is ∙ index.root) z
    (sym at ∙ ap option_copied c.in_ok-zone.was) earlier
    (c.then_some-earlier.ensures ∙ then_is _ c.in-Some.root)
