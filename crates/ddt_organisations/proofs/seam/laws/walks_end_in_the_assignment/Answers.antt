use Rattle.ddt_organisations.proofs.SeamLemmas.WalkLemmas.{walks_end}
use Rattle.ddt_organisations.proofs.seam.laws.walks_end_in_the_assignment.Goals as goal

pub returns : goal.returns
returns c =
    walks_end c.sides_answer_as_joined.ensures
    (λ r accepted. record {
      root = c.each_identifier_has_a_zone.ensures.root r accepted;
      served = c.each_zone_has_servers.ensures.served r accepted;
      downwards = c.honest_servers_lead_to_the_assignment.ensures.downwards r accepted;
      to_zones = c.honest_servers_lead_to_the_assignment.ensures.to_zones r accepted;
      decided = c.honest_servers_lead_to_the_assignment.ensures.decided r accepted;
    })
