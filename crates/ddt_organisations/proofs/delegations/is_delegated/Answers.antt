use Rattle.std.proofs.Common.{sym, ◌∙◌, rules}
use Rattle.ddt_organisations.specs.Meets.{seen, own_zones}
use Rattle.ddt_organisations.proofs.PrefixLemmas.{none_run, below_own}
use Rattle.ddt_organisations.proofs.delegations.is_delegated.Goals as goal

pub returns-then-runs : goal.returns-then-runs
returns-then-runs c =
    none_run (seen c.args.organisation.now) c.args.zone.now (sym c.runs.ensures ∙ c.if-runs.true)

pub returns : goal.returns
returns c =
    let o = seen c.args.organisation.now in
    let below = below_own o c.args.zone.now c.has_above.result (sym c.runs.ensures ∙ c.if-runs.false)
    (c.has_above.ensures (own_zones o) c.requires) in
    search rules
