use Rattle.std.proofs.Common.{List, rules, subst}
use Rattle.ddt_path.specs.declared.locator.Locator.{Locator}
use Rattle.ddt_review.specs.declared.warnings.kind.Kind.TheVariants.{UnreachableLocator, LocatorInsideEids}
use Rattle.ddt_review.specs.Warnings.Index.{register_of, resolvers_of}
use Rattle.ddt_review.specs.Warnings.Named.{IsFirst, IsTrueFinding}
use Rattle.ddt_review.specs.Warnings.UnreachableReason.{is_unreachable}
use Rattle.ddt_review.specs.Warnings.Warnings.{is_inside_eids}
use Rattle.ddt_review.proofs.WarningsLemmas.FoundLemmas.{first_so}
use Rattle.ddt_review.proofs.WarningsLemmas.NamedLemmas.{unreachable_group, inside_eids}
use Rattle.ddt_review.proofs.warnings.of_groups.GroupHasWarnings.find.Goals as goal

pub returns-in-UnreachableLocator-clause-named : goal.returns-in-UnreachableLocator-clause-named
returns-in-UnreachableLocator-clause-named c =
    let r = register_of c.args.index.now in
    let g = c.args.self.now in
    first_so _ _ (is_unreachable r) c.as_slice-locators.result.now
    (IsTrueFinding r (resolvers_of c.args.index.now) g.row) c.first_found.result
    (c.first_found.ensures.first (is_unreachable r) UnreachableLocator (λ l found h. search rules))
    (λ l w first says.
    unreachable_group r (resolvers_of c.args.index.now) g c.requires.member l w
    (subst (λ (ls : List Locator). IsFirst (is_unreachable r) ls l) c.as_slice-locators.ensures first) (search rules))

pub returns-in-LocatorInsideEids-clause-named : goal.returns-in-LocatorInsideEids-clause-named
returns-in-LocatorInsideEids-clause-named c =
    let r = register_of c.args.index.now in
    let g = c.args.self.now in
    first_so _ _ (is_inside_eids r) c.as_slice-locators.result.now
    (IsTrueFinding r (resolvers_of c.args.index.now) g.row) c.first_found-in-LocatorInsideEids.result
    (c.first_found-in-LocatorInsideEids.ensures.first (is_inside_eids r) LocatorInsideEids (λ l found h. search rules))
    (λ l w first says.
    inside_eids r (resolvers_of c.args.index.now) g c.requires.member l w
    (subst (λ (ls : List Locator). IsFirst (is_inside_eids r) ls l) c.as_slice-locators.ensures first) (search rules))
