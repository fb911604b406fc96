use Rattle.std.proofs.lemmas.List.Elements.{All-nil}
use Rattle.ddt_sim.specs.Lookup.{at_request}
use Rattle.ddt_sim.specs.Headline.{IsHonestHop}
use Rattle.ddt_sim.proofs.AskLemmas.{reached_by_ask, awaited_by_ask, under_way, removed_well}
use Rattle.ddt_sim.proofs.one_lookup.after_ask.Goals as goal

pub follow-requires : goal.follow-requires
follow-requires g c = awaited_by_ask c.in-Sent.is c.requires

pub returns-in-Answer-clause-honest : goal.returns-in-Answer-clause-honest
returns-in-Answer-clause-honest g c = λ r x honest asked.
    record { sound = asked.sound; right = rw c.in-Answer.is at asked.right; failure = tt; fair = rw (c.of.ensures, c.new.ensures.items) (All-nil (IsHonestHop r x c.args.resolver.now.me)) }

pub returns-in-Ok-clause-steps : goal.returns-in-Ok-clause-steps
returns-in-Ok-clause-steps g c = λ x start step. c.in-Ok.ensures.steps x start (reached_by_ask c.in-Sent.is step)

pub returns-in-Ok-clause-honest : goal.returns-in-Ok-clause-honest
returns-in-Ok-clause-honest g c = λ r x honest asked. c.in-Ok.ensures.honest r x honest (under_way c.in-Sent.is asked)

pub returns-in-Err-clause-failed : goal.returns-in-Err-clause-failed
returns-in-Err-clause-failed g c = λ x start step.
    let f = c.in-Err.ensures.failed x start (reached_by_ask c.in-Sent.is step) in at_request f.reaches f.fails c.cancel.ensures.dropped

pub returns-in-Err-clause-honest : goal.returns-in-Err-clause-honest
returns-in-Err-clause-honest g c = λ r x honest asked.
    removed_well c.in-Sent.ticket (c.in-Err.ensures.honest r x honest (under_way c.in-Sent.is asked)) c.cancel.ensures.dropped
