use Rattle.std.proofs.Common.{◌≡◌, Err, refl, rules}
use Rattle.ddt_registrar.specs.Taking.{OutOfMemory}
use Rattle.ddt_registrar.proofs.registrar.Registrar.take.Goals as goal

pub returns-in_err-notify-clause-refused : goal.returns-in_err-notify-clause-refused
returns-in_err-notify-clause-refused g c =
    let e : c.from_residual.result ≡ Err c.in_err-notify.field-0.0 = search rules in
    rw e c.in_err-notify.ensures.refused

pub returns-in-Err-clause-refused : goal.returns-in-Err-clause-refused
returns-in-Err-clause-refused g c = let may = c.in_ok-notify.ensures.told in OutOfMemory may.key may.taken refl
