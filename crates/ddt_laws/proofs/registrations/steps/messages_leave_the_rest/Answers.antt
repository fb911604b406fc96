use Rattle.ddt_laws.proofs.RegistrationsLemmas.StepLemmas.{only_its_own, others_stay_registered, none_forgotten, keys_stay}
use Rattle.ddt_laws.proofs.registrations.steps.messages_leave_the_rest.Goals as goal

pub returns : goal.returns
returns c = record { sites = only_its_own; registrations = others_stay_registered; nonces = none_forgotten; keys = keys_stay }
