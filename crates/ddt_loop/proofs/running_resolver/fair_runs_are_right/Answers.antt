use Rattle.ddt_loop.proofs.RunLemmas.{fair_runs}
use Rattle.ddt_loop.proofs.running_resolver.fair_runs_are_right.Goals as goal

pub returns : goal.returns
returns c =
    let sound = c.a_step_keeps_a_resolver_sound.ensures in
    let starts = c.a_step_keeps_starts_true.ensures in
    fair_runs sound.steps sound.hastening sound.time c.honest_replies_are_inside.ensures.inside starts.steps starts.hastening sound.forgetting starts.forgetting
