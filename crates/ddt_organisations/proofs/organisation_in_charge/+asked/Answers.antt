use Rattle.std.proofs.Common.{◌<◌, sym, ap, ◌∙◌, arith, rules}
use Rattle.std.specs.Option.{option_copied}
use Rattle.ddt_organisations.specs.Found.{IsNumber}
use Rattle.ddt_organisations.proofs.MeetingLemmas.{got}
use Rattle.ddt_organisations.proofs.ChargeLemmas.{by_itself, handed_on, if_none, no_zone, no_hops, nobody_runs, nowhere_if}
use Rattle.ddt_organisations.proofs.organisation_in_charge.+asked.Goals as goal

pub returns-in_err-zone-clause-none : goal.returns-in_err-zone-clause-none
returns-in_err-zone-clause-none t c =
    let all = c.args.all.now in
    let o = c.in_ok-organisation.organisation.now in
    let is : IsNumber all c.args.number o =
    sym (got all c.args.number c.get.result c.get.ensures.lookup) ∙ ap option_copied c.in_ok-organisation.was in
    if_none c.from_residual-in_err-zone.result
    (no_zone c.requires all c.args.x c.args.number c.args.hops o is (sym c.zone_of.ensures ∙ c.in_err-zone.was))

pub returns-then-runs-clause-found : goal.returns-then-runs-clause-found
returns-then-runs-clause-found t c =
    let all = c.args.all.now in
    let o = c.in_ok-organisation.organisation.now in
    let is : IsNumber all c.args.number o =
    sym (got all c.args.number c.get.result c.get.ensures.lookup) ∙ ap option_copied c.in_ok-organisation.was in
    by_itself all c.args.x c.args.number o is c.in_ok-zone.zone (sym c.zone_of.ensures ∙ c.in_ok-zone.was)
    (sym c.runs.ensures ∙ c.if-runs.true)

pub returns-then-hops-eq0-clause-none : goal.returns-then-hops-eq0-clause-none
returns-then-hops-eq0-clause-none t c =
    let all = c.args.all.now in
    let o = c.in_ok-organisation.organisation.now in
    let is : IsNumber all c.args.number o =
    sym (got all c.args.number c.get.result c.get.ensures.lookup) ∙ ap option_copied c.in_ok-organisation.was in
    no_hops c.requires all c.args.x c.args.number c.args.hops o is c.in_ok-zone.zone
    (sym c.zone_of.ensures ∙ c.in_ok-zone.was) (sym c.runs.ensures ∙ c.if-runs.false) c.if-hops-eq0.true

pub returns-in_err-runner-clause-none : goal.returns-in_err-runner-clause-none
returns-in_err-runner-clause-none t c =
    let all = c.args.all.now in
    let o = c.in_ok-organisation.organisation.now in
    let is : IsNumber all c.args.number o =
    sym (got all c.args.number c.get.result c.get.ensures.lookup) ∙ ap option_copied c.in_ok-organisation.was in
    if_none c.from_residual-in_err-runner.result
    (nobody_runs c.requires all c.args.x c.args.number c.args.hops o is c.in_ok-zone.zone
    (sym c.zone_of.ensures ∙ c.in_ok-zone.was) (sym c.runs.ensures ∙ c.if-runs.false) c.in_err-runner.ensures.none)

pub returns-clause-found : goal.returns-clause-found
returns-clause-found t c =
    let all = c.args.all.now in
    let o = c.in_ok-organisation.organisation.now in
    let is : IsNumber all c.args.number o =
    sym (got all c.args.number c.get.result c.get.ensures.lookup) ∙ ap option_copied c.in_ok-organisation.was in
    let handed = handed_on all c.args.x c.args.number o is c.in_ok-zone.zone (sym c.zone_of.ensures ∙ c.in_ok-zone.was)
    c.in_ok-runner.field-0 (sym c.runs.ensures ∙ c.if-runs.false) c.in_ok-runner.ensures.found c.asked.result
    c.asked.ensures.found in
    search rules

pub returns-clause-none : goal.returns-clause-none
returns-clause-none t c =
    let all = c.args.all.now in
    let o = c.in_ok-organisation.organisation.now in
    let is : IsNumber all c.args.number o =
    sym (got all c.args.number c.get.result c.get.ensures.lookup) ∙ ap option_copied c.in_ok-organisation.was in
    let positive : 0 < c.args.hops = omega arith in
    nowhere_if c.requires all c.args.x c.args.number c.args.hops o is c.in_ok-zone.zone
    (sym c.zone_of.ensures ∙ c.in_ok-zone.was) (sym c.runs.ensures ∙ c.if-runs.false) c.in_ok-runner.field-0
    c.in_ok-runner.ensures.found positive c.asked.result c.asked.ensures.none
