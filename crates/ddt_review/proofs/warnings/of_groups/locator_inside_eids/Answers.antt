use Rattle.std.proofs.Common.{refl, sym, subst}
use Rattle.ddt_review.specs.declared.warnings.kind.Kind.TheVariants.{LocatorInsideEids}
use Rattle.ddt_review.specs.Warnings.Found.{IsWarningFound}
use Rattle.ddt_review.specs.Warnings.Index.{register_of}
use Rattle.ddt_review.specs.Warnings.Warnings.{eid_path, is_inside_eids}
use Rattle.ddt_review.proofs.WarningsLemmas.FoundLemmas.{covered_none, covered_some}
use Rattle.ddt_review.proofs.warnings.of_groups.locator_inside_eids.Goals as goal

pub returns-in_err-site-clause-found : goal.returns-in_err-site-clause-found
returns-in_err-site-clause-found c =
    let r = register_of c.args.index.now in
    subst (IsWarningFound (is_inside_eids r c.args.locator) LocatorInsideEids) (sym c.from_residual.ensures)
    (covered_none r (eid_path c.args.locator) (sym c.in_err-site.ensures))

pub returns-clause-found : goal.returns-clause-found
returns-clause-found c =
    let r = register_of c.args.index.now in
    (covered_some r (eid_path c.args.locator) c.in_ok-site.site.now (sym c.in_ok-site.ensures), refl)

pub returns-clause-named : goal.returns-clause-named
returns-clause-named c = (c.in_ok-site.site.now, sym c.in_ok-site.ensures, refl)
