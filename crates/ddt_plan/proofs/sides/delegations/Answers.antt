use Rattle.std.proofs.Common.{◌≡◌, ◌∙◌, arith}
use Rattle.std.proofs.lemmas.Grind.{common_steps}
use Rattle.ddt_check.specs.Zones.{locators_of}
use Rattle.ddt_check.specs.laws.ServersByName.{servers_or_none}
use Rattle.ddt_plan.proofs.sides.delegations.Goals as goal

pub loop-zone-preserved : goal.loop-zone-preserved
loop-zone-preserved c =
    let r = c.args.accepted.now in
    let z = c.zone-item.result in
    let served : c.servers_of.result ≡ locators_of r z.group = c.servers_of.ensures ∙ servers_or_none r z.group _ (c.in_ok-servers.ensures z.group) in
    grind (arith, common_steps, served)
