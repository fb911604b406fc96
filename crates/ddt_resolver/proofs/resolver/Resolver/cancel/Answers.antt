use Rattle.ddt_resolver.specs.laws.Order.{order_dropped}
use Rattle.ddt_resolver.proofs.resolver.Resolver.cancel.Goals as goal

pub invariant_of-self : goal.invariant_of-self
invariant_of-self g c = rw (c.cancel.ensures.removed, c.cancel.ensures.next) (order_dropped _ _ c.self.invariant)
