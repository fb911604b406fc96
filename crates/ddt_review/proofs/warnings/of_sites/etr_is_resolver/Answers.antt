use Rattle.std.proofs.Common.{ℕ, refl, ap, ◌∙◌}
use Rattle.std.specs.BTreeSet.{contains}
use Rattle.ddt_path.specs.Locators.{lists}
use Rattle.ddt_review.specs.declared.warnings.kind.Kind.TheVariants.{EtrIsResolver}
use Rattle.ddt_review.specs.Warnings.Found.{address_cmp}
use Rattle.ddt_review.specs.Warnings.Index.{resolvers_of}
use Rattle.ddt_review.proofs.WarningsLemmas.FoundLemmas.{found_then}
use Rattle.ddt_review.proofs.warnings.of_sites.etr_is_resolver.Goals as goal

pub returns-clause-found : goal.returns-clause-found
returns-clause-found c =
    let l = c.args.etr in
    found_then (lists (resolvers_of c.args.index.now) l) c.contains-is_known.result EtrIsResolver _ c.then_some.result
    c.then_some.ensures refl
    (c.contains-is_known.ensures ∙ ap (λ (a : ℕ × ℕ). contains address_cmp c.args.index.now.known a) c.address.ensures
    ∙ c.requires.known l)
