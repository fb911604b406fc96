use Rattle.std.proofs.lemmas.Result.{IfOk-weaker}
use Rattle.ddt_resolver.specs.TickStep.{hastened}
use Rattle.ddt_resolver.proofs.resolver.Resolver.hasten_now.Goals as goal

pub returns-in-Some-clause-step : goal.returns-in-Some-clause-step
returns-in-Some-clause-step g c =
    IfOk-weaker c.go_on.result _ _ (λ h. hastened c.in-Some.ticket c.in-Some.lookup c.in-Some.ensures.found c.in-Some.ensures.nonce) c.go_on.ensures.on
