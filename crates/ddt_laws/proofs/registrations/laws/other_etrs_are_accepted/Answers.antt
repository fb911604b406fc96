use Rattle.ddt_laws.proofs.RegistrationsLemmas.AcceptLemmas.{accepted}
use Rattle.ddt_laws.proofs.registrations.laws.other_etrs_are_accepted.Goals as goal

pub returns : goal.returns
returns c = accepted
