use Rattle.std.proofs.Common.{◌≡◌}
use Rattle.ddt_registrar.proofs.CarryLemmas.{carried_all}
use Rattle.ddt_registrar.proofs.registrar.Registrar.carry_over.Given as goal

abbrev pub invariant-loop-site : goal.invariant-loop-site
invariant-loop-site g l = carried_all l.site-iterator.rest.items l.self ≡ carried_all l.fn.before l.fn.self
