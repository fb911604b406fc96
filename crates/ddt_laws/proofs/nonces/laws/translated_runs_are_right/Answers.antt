use Rattle.ddt_laws.proofs.NoncesLemmas.RunLemmas.{runs_translated}
use Rattle.ddt_laws.proofs.nonces.laws.translated_runs_are_right.Goals as goal

pub returns : goal.returns
returns c = runs_translated c.fair_runs_are_right.ensures c.runs_ask_once.ensures c.translated_packets_are_fair.ensures.fair c.translated_packets_are_fair.ensures.owed
