use Rattle.ddt_sim.proofs.TrailLemmas as trail
use Rattle.ddt_sim.proofs.laws.a_lookup_has_two_passes.Goals as goal

pub returns : goal.returns
returns c = record { steps = trail.passes_go_on; hastening = trail.haste_passes_go_on }
