use Rattle.ddt_laws.proofs.RegistrationsLemmas.StepLemmas.{over, clock_keeps_keys}
use Rattle.ddt_laws.proofs.registrations.steps.the_clock_ends_registrations.Goals as goal

pub returns : goal.returns
returns c = record { over = over; keys = clock_keeps_keys }
