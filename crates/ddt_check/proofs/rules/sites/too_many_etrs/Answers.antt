use Rattle.std.proofs.Common.{rules}
use Rattle.std.proofs.lemmas.List.Sorted.{IsPermutation-refl}
use Rattle.ddt_check.specs.Rules.{has_too_many_etrs}
use Rattle.ddt_check.proofs.rules.sites.too_many_etrs.Goals as goal

pub returns : goal.returns
returns c =
    let sites = c.args.register.now.sites in
    c.least_row.ensures has_too_many_etrs sites (λ item answer h. search rules)
    (rw c.as_slice.ensures (IsPermutation-refl sites))
