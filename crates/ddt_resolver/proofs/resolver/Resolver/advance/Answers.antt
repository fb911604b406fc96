use Rattle.ddt_resolver.specs.laws.Order.{order_moved}
use Rattle.ddt_resolver.proofs.resolver.Resolver.advance.Goals as goal

pub invariant_of-self : goal.invariant_of-self
invariant_of-self g c = rw c.advance.ensures (order_moved _ c.args.now c.millis-millis.ensures.bound c.self.invariant)
