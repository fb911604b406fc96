use Rattle.ddt_laws.proofs.RegistrationsLemmas.ForceLemmas.{in_force_of}
use Rattle.ddt_laws.proofs.registrations.laws.some_register_is_in_force.Goals as goal

pub returns : goal.returns
returns c = in_force_of
