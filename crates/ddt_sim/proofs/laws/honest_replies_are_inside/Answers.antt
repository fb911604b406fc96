use Rattle.ddt_sim.proofs.InsideLemmas.{honest_inside}
use Rattle.ddt_sim.proofs.CutLemmas.{cut_negatives}
use Rattle.ddt_sim.proofs.laws.honest_replies_are_inside.Goals as goal

pub returns : goal.returns
returns c = let honest = c.honest_servers_lead_to_the_assignment.ensures in record {
  inside = honest_inside (λ r accepted. record {
    zones = c.each_identifier_has_a_zone.ensures.one_zone r accepted;
    downwards = honest.downwards r accepted;
    to_zones = honest.to_zones r accepted;
    decided = honest.decided r accepted;
    cover = honest.cover r accepted;
  });
  negatives = cut_negatives (λ r accepted. honest.decided r accepted) (λ r accepted. c.negatives_hold_of_all_that_they_cover.ensures.negative r accepted);
}
