use Rattle.ddt_resolver.proofs.BoundLemmas.{ask_within}
use Rattle.ddt_resolver.proofs.resolver.Resolver.ask.Goals as goal

pub returns-clause-bound : goal.returns-clause-bound
returns-clause-bound g c = ask_within c.in_order.ensures c.args.x c.start.ensures.identifier _ _ c.start.ensures.step
