use Rattle.ddt_sim.proofs.StartLemmas.{new_starts, steps_keep, time_keeps, hastening_keeps, cancelling_keeps, forgetting_keeps}
use Rattle.ddt_sim.proofs.laws.a_step_keeps_starts_true.Goals as goal

pub returns : goal.returns
returns c = record {
  new = new_starts;
  steps = steps_keep;
  time = time_keeps;
  hastening = hastening_keeps;
  cancelling = cancelling_keeps;
  forgetting = forgetting_keeps;
}
