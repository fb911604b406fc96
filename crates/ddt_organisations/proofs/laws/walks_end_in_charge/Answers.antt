use Rattle.ddt_organisations.proofs.FollowLemmas.{ends_in_charge}
use Rattle.ddt_organisations.proofs.laws.walks_end_in_charge.Goals as goal

pub returns : goal.returns
returns c = ends_in_charge (record {
  register = λ r accepted. record {
    one_zone = c.each_identifier_has_a_zone.ensures.one_zone r accepted;
    root = c.each_identifier_has_a_zone.ensures.root r accepted;
    one_group = c.each_identifier_has_a_zone.ensures.one_group r accepted;
    served = c.each_zone_has_servers.ensures.served r accepted;
    downwards = c.honest_servers_lead_to_the_assignment.ensures.downwards r accepted;
    to_zones = c.honest_servers_lead_to_the_assignment.ensures.to_zones r accepted;
    decided = c.honest_servers_lead_to_the_assignment.ensures.decided r accepted;
  };
  honest = c.a_compiled_configuration_answers_honestly.ensures.honest;
  sides = c.sides_answer_as_joined.ensures;
  run = c.good_seams_are_run.ensures;
})
