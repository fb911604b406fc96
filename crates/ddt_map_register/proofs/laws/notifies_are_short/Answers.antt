use Rattle.ddt_map_register.proofs.NotifyLemmas as lemmas
use Rattle.ddt_map_register.proofs.laws.notifies_are_short.Goals as goal

pub returns : goal.returns
returns c = lemmas.notifies_are_short
