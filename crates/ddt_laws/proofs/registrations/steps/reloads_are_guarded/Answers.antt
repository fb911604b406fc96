use Rattle.ddt_laws.proofs.RegistrationsLemmas.ReloadLemmas.{not_after_reload, revoked, reload_keeps_keys}
use Rattle.ddt_laws.proofs.registrations.steps.reloads_are_guarded.Goals as goal

pub returns : goal.returns
returns c = record { once = not_after_reload; revoked = revoked; keys = reload_keeps_keys }
