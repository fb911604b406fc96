use Rattle.std.proofs.Common.{List, rules, sym, subst}
use Rattle.std.specs.List.{list_any}
use Rattle.ddt_path.specs.declared.locator.Locator.{Locator}
use Rattle.ddt_path.specs.Locators.{lists}
use Rattle.ddt_review.specs.declared.warnings.kind.Kind.{Kind}
use Rattle.ddt_review.specs.declared.warnings.kind.Kind.TheVariants.{UnreachableEtr, RepeatedEtr, EtrIsServer, EtrIsResolver, EtrInsideSite}
use Rattle.ddt_review.specs.Warnings.Found.{IsWarningFound}
use Rattle.ddt_review.specs.Warnings.Index.{register_of, resolvers_of}
use Rattle.ddt_review.specs.Warnings.Named.{IsFirst, IsTrueFinding}
use Rattle.ddt_review.specs.Warnings.UnreachableReason.{is_unreachable}
use Rattle.ddt_review.specs.Warnings.Warnings.{is_repeated, is_server, is_inside_site, site_has}
use Rattle.ddt_review.proofs.WarningsLemmas.FoundLemmas.{first_so}
use Rattle.ddt_review.proofs.WarningsLemmas.NamedLemmas.{unreachable_site, repeated, of_server, of_resolver, inside_site}
use Rattle.ddt_review.proofs.warnings.of_sites.SiteHasWarnings.find.Goals as goal

pub returns-in-RepeatedEtr-clause-found : goal.returns-in-RepeatedEtr-clause-found
returns-in-RepeatedEtr-clause-found c =
    let s = c.args.self.now in
    subst (λ (k : Kind). IsWarningFound (site_has (register_of c.args.index.now) (resolvers_of c.args.index.now) k s) k c.first_found-in-RepeatedEtr.result) (sym c.in-RepeatedEtr.is)
    (subst (λ (ls : List Locator). IsWarningFound (list_any (is_repeated s.etrs) ls) RepeatedEtr c.first_found-in-RepeatedEtr.result)
    c.as_slice-etrs.ensures
    (c.first_found-in-RepeatedEtr.ensures.found (is_repeated s.etrs) RepeatedEtr (λ l found h. search rules)))

pub returns-in-UnreachableEtr-clause-named : goal.returns-in-UnreachableEtr-clause-named
returns-in-UnreachableEtr-clause-named c =
    first_so _ _ (is_unreachable (register_of c.args.index.now)) c.as_slice-etrs.result.now
    (IsTrueFinding (register_of c.args.index.now) (resolvers_of c.args.index.now) c.args.self.now.row)
    c.first_found.result
    (c.first_found.ensures.first (is_unreachable (register_of c.args.index.now)) UnreachableEtr (λ l found h. search rules))
    (λ l w first says.
    unreachable_site (register_of c.args.index.now) (resolvers_of c.args.index.now) c.args.self.now c.requires.member l w
    (subst (λ (ls : List Locator). IsFirst (is_unreachable (register_of c.args.index.now)) ls l) c.as_slice-etrs.ensures first) (search rules))

pub returns-in-RepeatedEtr-clause-named : goal.returns-in-RepeatedEtr-clause-named
returns-in-RepeatedEtr-clause-named c =
    first_so _ _ (is_repeated c.args.self.now.etrs) c.as_slice-etrs.result.now
    (IsTrueFinding (register_of c.args.index.now) (resolvers_of c.args.index.now) c.args.self.now.row)
    c.first_found-in-RepeatedEtr.result
    (c.first_found-in-RepeatedEtr.ensures.first (is_repeated c.args.self.now.etrs) RepeatedEtr (λ l found h. search rules))
    (λ l w first says.
    repeated (register_of c.args.index.now) (resolvers_of c.args.index.now) c.args.self.now c.requires.member l w
    (subst (λ (ls : List Locator). IsFirst (is_repeated c.args.self.now.etrs) ls l) c.as_slice-etrs.ensures first) (search rules))

pub returns-in-EtrIsServer-clause-named : goal.returns-in-EtrIsServer-clause-named
returns-in-EtrIsServer-clause-named c =
    first_so _ _ (is_server (register_of c.args.index.now)) c.as_slice-etrs.result.now
    (IsTrueFinding (register_of c.args.index.now) (resolvers_of c.args.index.now) c.args.self.now.row)
    c.first_found-in-EtrIsServer.result
    (c.first_found-in-EtrIsServer.ensures.first (is_server (register_of c.args.index.now)) EtrIsServer (λ l found h. search rules))
    (λ l w first says.
    of_server (register_of c.args.index.now) (resolvers_of c.args.index.now) c.args.self.now c.requires.member l w
    (subst (λ (ls : List Locator). IsFirst (is_server (register_of c.args.index.now)) ls l) c.as_slice-etrs.ensures first) (search rules))

pub returns-in-EtrIsResolver-clause-named : goal.returns-in-EtrIsResolver-clause-named
returns-in-EtrIsResolver-clause-named c =
    first_so _ _ (lists (resolvers_of c.args.index.now)) c.as_slice-etrs.result.now
    (IsTrueFinding (register_of c.args.index.now) (resolvers_of c.args.index.now) c.args.self.now.row)
    c.first_found-in-EtrIsResolver.result
    (c.first_found-in-EtrIsResolver.ensures.first (lists (resolvers_of c.args.index.now)) EtrIsResolver (λ l found h. search rules))
    (λ l w first says.
    of_resolver (register_of c.args.index.now) (resolvers_of c.args.index.now) c.args.self.now c.requires.member l w
    (subst (λ (ls : List Locator). IsFirst (lists (resolvers_of c.args.index.now)) ls l) c.as_slice-etrs.ensures first) (search rules))

pub returns-in-EtrInsideSite-clause-named : goal.returns-in-EtrInsideSite-clause-named
returns-in-EtrInsideSite-clause-named c =
    first_so _ _ (is_inside_site c.args.self.now) c.as_slice-etrs.result.now
    (IsTrueFinding (register_of c.args.index.now) (resolvers_of c.args.index.now) c.args.self.now.row)
    c.first_found-in-EtrInsideSite.result
    (c.first_found-in-EtrInsideSite.ensures.first (is_inside_site c.args.self.now) EtrInsideSite (λ l found h. search rules))
    (λ l w first says.
    inside_site (register_of c.args.index.now) (resolvers_of c.args.index.now) c.args.self.now c.requires.member l w
    (subst (λ (ls : List Locator). IsFirst (is_inside_site c.args.self.now) ls l) c.as_slice-etrs.ensures first) (search rules))
