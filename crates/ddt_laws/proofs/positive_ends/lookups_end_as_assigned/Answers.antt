use Rattle.ddt_laws.proofs.PositiveEndsLemmas.ServeLemmas.{laws_of, ends_assigned, requests_assigned}
use Rattle.ddt_laws.proofs.positive_ends.lookups_end_as_assigned.Goals as goal

pub returns-clause-ends : goal.returns-clause-ends
returns-clause-ends c =
    let sound = c.a_step_keeps_a_resolver_sound.ensures in
    let starts = c.a_step_keeps_starts_true.ensures in
    ends_assigned
    (laws_of sound.steps sound.hastening sound.time sound.forgetting starts.steps starts.hastening starts.forgetting c.honest_replies_are_inside.ensures.inside)

pub returns-clause-onward : goal.returns-clause-onward
returns-clause-onward c =
    let sound = c.a_step_keeps_a_resolver_sound.ensures in
    let starts = c.a_step_keeps_starts_true.ensures in
    requests_assigned
    (laws_of sound.steps sound.hastening sound.time sound.forgetting starts.steps starts.hastening starts.forgetting c.honest_replies_are_inside.ensures.inside)
