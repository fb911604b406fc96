use Rattle.std.proofs.Common.{sym, ap, ◌∙◌}
use Rattle.std.specs.List.{filter}
use Rattle.std.proofs.lemmas.List.{take_all}
use Rattle.ddt_organisations.specs.Meets.{seen, is_delegated}
use Rattle.ddt_organisations.proofs.ToldLemmas.{kept_more, left_more}
use Rattle.ddt_organisations.proofs.delegations.delegated_zones.Goals as goal
use Rattle.ddt_organisations.proofs.delegations.delegated_zones.Goals.{then-is_delegated+in_ok-push, else-is_delegated}

pub loop-zone-preserved : goal.loop-zone-preserved
loop-zone-preserved c =
    let test = is_delegated (seen c.args.organisation.now) in
    let items = c.zones-zone-items.result.now in
    let i = c.loop-zone.zone-index in
    let z = c.zone-item.result in
    let old = c.loop-zone.found.items in
    elim c.if-is_delegated.branch [
      | then-is_delegated+in_ok-push w ↦
          kept_more test items i z c.loop-zone-test.true c.zone-item.is c.if-is_delegated.found.items old
          c.loop-zone.invariant (sym c.is_delegated.ensures ∙ w.if-is_delegated.true)
          (ap (λ v. v.items) w.found-is ∙ w.in_ok-push.ensures.items)
      | else-is_delegated w ↦
          ap (λ v. v.items) w.found-is
          ∙ left_more test items i z c.loop-zone-test.true c.zone-item.is old c.loop-zone.invariant
          (sym c.is_delegated.ensures ∙ w.if-is_delegated.false)
    ]

pub returns : goal.returns
returns c =
    c.loop-zone.invariant
    ∙ ap (filter (is_delegated (seen c.args.organisation.now)))
    (take_all c.loop-zone.zone-index c.zones-zone-items.result.now c.loop-zone-test.false ∙ c.zones-zone-items.ensures)
