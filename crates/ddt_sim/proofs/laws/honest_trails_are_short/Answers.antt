use Rattle.ddt_sim.proofs.SoundLemmas.{KeepsLaws}
use Rattle.ddt_sim.proofs.ShortLemmas.{ShortLaws, trail_is_short}
use Rattle.ddt_wire.specs.laws.Message.{messages_are_read, record_back}
use Rattle.ddt_sim.proofs.laws.honest_trails_are_short.Goals as goal

pub returns : goal.returns
returns c = λ r x s l accepted order sound id trail honest.
    let z = c.each_identifier_has_a_zone.ensures in
    let h = c.honest_servers_lead_to_the_assignment.ensures in
    let n = c.negatives_hold_of_all_that_they_cover.ensures in
    let keeps : KeepsLaws r = record {
      zones = z.one_zone r accepted;
      root = z.root r accepted;
      downwards = h.downwards r accepted;
      to_zones = h.to_zones r accepted;
      decided = h.decided r accepted;
      sites = n.registered r accepted;
      negatives = n.negative r accepted;
    } in
    let laws : ShortLaws r = record {
      keeps = keeps;
      servers = h.servers r accepted;
      agree = h.agree r accepted;
      sendable = h.sendable r accepted;
      messages = messages_are_read;
      back = record_back;
    } in
    trail_is_short r laws x s l.outcome l.hops order sound id trail honest
