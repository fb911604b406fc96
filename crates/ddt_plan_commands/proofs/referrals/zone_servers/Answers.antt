use Rattle.std.proofs.Common.{◌∙◌, sym}
use Rattle.ddt_check.specs.laws.ServersByName.{servers_or_none}
use Rattle.ddt_plan_commands.proofs.ZoneLemmas.{zone_put, zone_kept}
use Rattle.ddt_plan_commands.proofs.referrals.zone_servers.Goals as goal
use Rattle.ddt_plan_commands.proofs.referrals.zone_servers.Goals.{then-not-contains_key+in_ok-insert, else-not-contains_key}

pub loop-zone-preserved : goal.loop-zone-preserved
loop-zone-preserved c = λ p.
    let r = c.args.accepted.now in
    let zones = c.as_slice-zone-items.result.now in
    let i = c.loop-zone.zone-index in
    let z = c.zone-item.result in
    elim c.if-not-contains_key.branch [
      | then-not-contains_key+in_ok-insert w ↦
          rw w.servers-is
          (zone_put r zones i z c.loop-zone-test.true c.zone-item.is c.loop-zone.servers w.insert.new.self c.loop-zone.invariant w.servers_of.result
          (w.servers_of.ensures ∙ servers_or_none r z.group _ (c.in_ok-groups.ensures z.group)) (sym c.contains_key.ensures ∙ w.if-not-contains_key.true) w.in_ok-insert.ensures.updates p)
      | else-not-contains_key w ↦
          rw w.servers-is (zone_kept r zones i z c.loop-zone-test.true c.zone-item.is c.loop-zone.servers c.loop-zone.servers c.loop-zone.invariant
          (sym c.contains_key.ensures ∙ w.if-not-contains_key.false) p)
    ]
