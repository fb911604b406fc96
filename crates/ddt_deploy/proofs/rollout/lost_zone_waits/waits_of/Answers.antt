use Rattle.std.proofs.Common.{◌≡◌, List, take, ap, ◌∙◌}
use Rattle.std.specs.Ordering.{nat_cmp}
use Rattle.std.specs.Cmp.Lexicographic.{slice_cmp}
use Rattle.std.specs.BTreeMap.{get}
use Rattle.std.proofs.lemmas.List.{take_all}
use Rattle.ddt_register.specs.declared.zone.Zone.{Zone}
use Rattle.ddt_register.specs.declared.register.Register.{Register}
use Rattle.ddt_deploy.specs.Rollout.Waits.{lost_in}
use Rattle.ddt_deploy.proofs.RolloutLemmas.WaitLemmas.{kept_at, kept_more, are_waits}
use Rattle.ddt_deploy.proofs.rollout.lost_zone_waits.waits_of.Goals as goal

pub loop-zone-preserved : goal.loop-zone-preserved
loop-zone-preserved c = λ p.
    c.in_ok-put_waits.ensures p
    ∙ kept_more (lost_in c.in_ok-groups.groups) c.as_slice-zone-items.result.now c.loop-zone.zone-index c.zone-item.result
    c.loop-zone-test.true c.zone-item.is p (get (slice_cmp nat_cmp) c.loop-zone.waits p) (c.loop-zone.invariant p)

pub returns : goal.returns
returns c =
    let rows : take c.loop-zone.zone-index c.as_slice-zone-items.result.now ≡ c.args.before.now.zones =
    take_all c.loop-zone.zone-index c.as_slice-zone-items.result.now c.loop-zone-test.false
    ∙ c.as_slice-zone-items.ensures ∙ ap (λ (r : Register). r.zones) c.register.ensures.register in
    are_waits c.args.before.now c.args.after.now c.in_ok-groups.groups c.in_ok-groups.ensures c.loop-zone.waits
    (λ p. c.loop-zone.invariant p ∙ ap (λ (zs : List Zone). kept_at (lost_in c.in_ok-groups.groups) zs p) rows)
