use Rattle.ddt_resolver.specs.laws.Order.{order_forgotten}
use Rattle.ddt_resolver.proofs.resolver.Resolver.forget.Goals as goal

pub invariant_of-self : goal.invariant_of-self
invariant_of-self g c = rw c.forget.ensures.forgotten (order_forgotten _ c.args.prefix c.self.invariant)
