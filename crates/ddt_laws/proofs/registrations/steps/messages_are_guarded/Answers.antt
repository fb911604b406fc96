use Rattle.ddt_laws.proofs.RegistrationsLemmas.JudgedLemmas.{taken_whole, unauthentic, replays}
use Rattle.ddt_laws.proofs.RegistrationsLemmas.StepLemmas.{not_twice}
use Rattle.ddt_laws.proofs.registrations.steps.messages_are_guarded.Goals as goal

pub returns : goal.returns
returns c = record { whole = taken_whole; unauthentic = unauthentic; replays = replays; once = not_twice }
