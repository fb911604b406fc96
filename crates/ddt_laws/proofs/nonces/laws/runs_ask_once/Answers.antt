use Rattle.ddt_laws.proofs.NoncesLemmas.OnceLemmas.{runs_once}
use Rattle.ddt_laws.proofs.nonces.laws.runs_ask_once.Goals as goal

pub returns : goal.returns
returns c = runs_once
