use Rattle.ddt_sim.proofs.ReplyLemmas.{RepliesAreRead}
use Rattle.ddt_sim.proofs.ExchangeLemmas.{understood}
use Rattle.ddt_wire.specs.laws.Message.{messages_are_read, record_back}
use Rattle.ddt_ecm.specs.laws.Written.{written_spells}
use Rattle.ddt_sim.proofs.laws.requests_are_understood.Goals as goal

pub returns : goal.returns
returns c = λ r now x s t d early order under.
    let h = c.honest_servers_lead_to_the_assignment.ensures in
    let read : RepliesAreRead r = record {
      messages = messages_are_read;
      back = record_back;
      cover = h.cover r under.accepted;
      servers = h.servers r under.accepted;
      sendable = h.sendable r under.accepted;
    } in
    let keeps = c.a_step_keeps_a_resolver_sound.ensures in
    understood r now x s t d early order under keeps.steps keeps.time read written_spells
