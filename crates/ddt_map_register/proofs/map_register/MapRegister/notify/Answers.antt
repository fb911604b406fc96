use Rattle.std.proofs.Common.{◌≡◌, IfOk, subst}
use Rattle.ddt_map_register.specs.MapRegister.{Message}
use Rattle.ddt_map_register.specs.MapNotify.{notify_to}
use Rattle.ddt_map_register.proofs.map_register.MapRegister.notify.Goals as goal

pub returns : goal.returns
returns c = subst (λ (m : Message). IfOk c.write_notify.result (λ bytes. bytes.items ≡ notify_to c.args.secret.now m)) c.self.view_is c.write_notify.ensures
