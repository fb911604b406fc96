use Rattle.std.proofs.Common.{◌≡◌, drop}
use Rattle.ddt_registrar.specs.Taking.{in_force}
use Rattle.ddt_registrar.proofs.registrar.Registrar.put_in_force.Given as goal

abbrev pub invariant-loop-site : goal.invariant-loop-site
invariant-loop-site g l = in_force (drop l.site-index l.self) l.server ≡ in_force l.self l.fn.server
