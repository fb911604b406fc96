use Rattle.ddt_wire.specs.laws.Message.{messages_are_read, record_back}
use Rattle.ddt_ecm.specs.laws.Written.{written_spells}
use Rattle.ddt_sim.proofs.laws.laws_of_runs.Goals as goal

pub returns : goal.returns
returns c = record {
  keeps = c.a_step_keeps_a_resolver_sound.ensures.steps;
  time = c.a_step_keeps_a_resolver_sound.ensures.time;
  messages = messages_are_read;
  back = record_back;
  cover = c.honest_servers_lead_to_the_assignment.ensures.cover;
  servers = c.honest_servers_lead_to_the_assignment.ensures.servers;
  sendable = c.honest_servers_lead_to_the_assignment.ensures.sendable;
  written = written_spells;
  decided = c.honest_servers_lead_to_the_assignment.ensures.decided;
  negatives = c.negatives_hold_of_all_that_they_cover.ensures.negative;
}
