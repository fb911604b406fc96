use Rattle.ddt_sim.proofs.TrailLemmas as trail
use Rattle.ddt_wire.specs.laws.Message.{messages_are_read}
use Rattle.ddt_sim.proofs.laws.passes_are_short.Goals as goal

pub returns : goal.returns
returns c = trail.passes_are_short messages_are_read
