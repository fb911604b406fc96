use Rattle.std.proofs.Common.{rules, sym}
use Rattle.ddt_review.specs.declared.warnings.kind.Kind.TheVariants.{ZoneBetween}
use Rattle.ddt_review.specs.declared.warnings.warning.Finding.TheVariants as found
use Rattle.ddt_review.specs.Warnings.Found.{IsWarningFound}
use Rattle.ddt_review.specs.Warnings.Index.{register_of, resolvers_of}
use Rattle.ddt_review.specs.Warnings.Named.{IsTrueFinding}
use Rattle.ddt_review.specs.Warnings.Warnings.{is_zone_between}
use Rattle.ddt_review.proofs.WarningsLemmas.NamedLemmas.{then_found, between}
use Rattle.ddt_review.proofs.warnings.of_zones.zone_between.Goals as goal

pub returns-clause-named : goal.returns-clause-named
returns-clause-named c =
    let r = register_of c.args.index.now in
    let known = resolvers_of c.args.index.now in
    let z = c.args.zone.now in
    let p = c.in_ok-above.above.now in
    let told : IsWarningFound (is_zone_between r z) ZoneBetween c.then_some.result = search rules in
    then_found (IsTrueFinding r known z.row) c.if-is_of_nodes.is_between (is_zone_between r z) ZoneBetween
    (found.ZoneBetween p.row) c.then_some.result c.then_some.ensures told
    (λ is. between r known z p c.requires.member (sym c.in_ok-above.ensures) is)
