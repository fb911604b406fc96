use Rattle.std.proofs.Common.{refl, sym, subst, ◌∙◌}
use Rattle.ddt_review.specs.declared.warnings.kind.Kind.TheVariants.{SiteInOtherRegion}
use Rattle.ddt_review.specs.declared.warnings.warning.Finding.TheVariants as found
use Rattle.ddt_review.specs.Warnings.Found.{IsWarningFound, AreListedInOrder}
use Rattle.ddt_review.specs.Warnings.Index.{register_of, resolvers_of}
use Rattle.ddt_review.specs.Warnings.Named.{IsTrueFinding}
use Rattle.ddt_review.specs.Warnings.Warnings.{is_in_other_region}
use Rattle.ddt_review.proofs.WarningsLemmas.FoundLemmas.{no_region, region_is, found_then}
use Rattle.ddt_review.proofs.WarningsLemmas.NamedLemmas.{then_so, beside}
use Rattle.ddt_review.proofs.warnings.of_sites.in_other_region.Goals as goal

pub returns-in_err-before-clause-found : goal.returns-in_err-before-clause-found
returns-in_err-before-clause-found c =
    let r = register_of c.args.index.now in
    let s = c.args.site.now in
    let order = subst (AreListedInOrder r) (sym c.as_slice.ensures.value) c.requires.index.order in
    subst (IsWarningFound (is_in_other_region r s) SiteInOtherRegion) (sym c.from_residual.ensures)
    (no_region r s (c.in_err-before.ensures r c.requires.index.tree.accepted order c.requires.member))

pub returns-clause-found : goal.returns-clause-found
returns-clause-found c =
    let r = register_of c.args.index.now in
    let s = c.args.site.now in
    let order = subst (AreListedInOrder r) (sym c.as_slice.ensures.value) c.requires.index.order in
    let beside = c.in_ok-before.ensures r c.requires.index.tree.accepted order c.requires.member in
    found_then (is_in_other_region r s) c.is_other.result SiteInOtherRegion _ c.then_some.result c.then_some.ensures refl
    (c.is_other.ensures ∙ region_is r s c.in_ok-before.before.now c.in_ok-before.behind.now beside)

pub returns-clause-named : goal.returns-clause-named
returns-clause-named c =
    let r = register_of c.args.index.now in
    let known = resolvers_of c.args.index.now in
    let s = c.args.site.now in
    let a = c.in_ok-before.before.now in
    let b = c.in_ok-before.behind.now in
    let order = subst (AreListedInOrder r) (sym c.as_slice.ensures.value) c.requires.index.order in
    let near = c.in_ok-before.ensures r c.requires.index.tree.accepted order c.requires.member in
    then_so (IsTrueFinding r known s.row) c.is_other.result (found.SiteInOtherRegion a.row b.row) c.then_some.result
    c.then_some.ensures
    (λ is. beside r known s a b c.requires.member near (sym (c.is_other.ensures ∙ region_is r s a b near) ∙ is))
