use Rattle.std.proofs.lemmas.Result.{IfOk-weaker}
use Rattle.ddt_resolver.specs.TickStep.{due}
use Rattle.ddt_resolver.proofs.resolver.Resolver.take_due.Goals as goal

pub returns-in-Some-clause-step : goal.returns-in-Some-clause-step
returns-in-Some-clause-step g c = IfOk-weaker c.go_on.result _ _ (λ h. due c.in-Some.ticket c.in-Some.lookup c.in-Some.ensures.found) c.go_on.ensures.on
