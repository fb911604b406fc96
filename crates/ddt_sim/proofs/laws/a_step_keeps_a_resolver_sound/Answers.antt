use Rattle.std.proofs.Common.{refl, sym, ◌∙◌, nat_cmp}
use Rattle.std.specs.FinMap.{get-empty}
use Rattle.std.proofs.lemmas.Option.{none-some}
use Rattle.ddt_trie.specs.PrefixMap.{path_cmp}
use Rattle.ddt_register.specs.declared.register.Register.{Register}
use Rattle.ddt_check.specs.Rules.{IsAccepted}
use Rattle.ddt_sim.proofs.SoundLemmas.{KeepsLaws, sound_step, sound_hastened, sound_moved, sound_dropped, sound_forgotten}
use Rattle.ddt_sim.proofs.laws.a_step_keeps_a_resolver_sound.Goals as goal
use Rattle.ddt_sim.proofs.laws.a_step_keeps_a_resolver_sound.Goals.{After-negatives_hold_of_all_that_they_cover}

laws_of : (c : After-negatives_hold_of_all_that_they_cover) (r : Register) → IsAccepted r → KeepsLaws r
laws_of c r accepted =
    let z = c.each_identifier_has_a_zone.ensures in
    let h = c.honest_servers_lead_to_the_assignment.ensures in
    let n = c.negatives_hold_of_all_that_they_cover.ensures in
    record {
      zones = z.one_zone r accepted;
      root = z.root r accepted;
      downwards = h.downwards r accepted;
      to_zones = h.to_zones r accepted;
      decided = h.decided r accepted;
      sites = n.registered r accepted;
      negatives = n.negative r accepted;
    }

pub returns-clause-steps : goal.returns-clause-steps
returns-clause-steps c = λ r s call new reply accepted order sound fair step.
    sound_step r (laws_of (goal.at.returns-clause-steps c).After-negatives_hold_of_all_that_they_cover r accepted) s order sound call new reply fair step

pub returns-clause-hastening : goal.returns-clause-hastening
returns-clause-hastening c = λ r s nonce new ticked accepted order sound step.
    sound_hastened r (laws_of (goal.at.returns-clause-hastening c).After-negatives_hold_of_all_that_they_cover r accepted) s order sound nonce new ticked step

pub returns-clause-time : goal.returns-clause-time
returns-clause-time c = λ r s now sound. sound_moved r s sound now

pub returns-clause-cancelling : goal.returns-clause-cancelling
returns-clause-cancelling c = λ r s t sound. sound_dropped r s sound t

pub returns-clause-forgetting : goal.returns-clause-forgetting
returns-clause-forgetting c = λ r s p sound. sound_forgotten r s sound p

pub returns-clause-new : goal.returns-clause-new
returns-clause-new c = λ r me seed. record {
  root = refl;
  entries = λ p e found. absurd (none-some e (sym (get-empty path_cmp p) ∙ found));
  lookups = λ t l found. absurd (none-some l (sym (get-empty nat_cmp t) ∙ found));
}
