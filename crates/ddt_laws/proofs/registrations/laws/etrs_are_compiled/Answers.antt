use Rattle.ddt_laws.proofs.RegistrationsLemmas.CompileLemmas.{compiled}
use Rattle.ddt_laws.proofs.registrations.laws.etrs_are_compiled.Goals as goal

pub returns : goal.returns
returns c = compiled
