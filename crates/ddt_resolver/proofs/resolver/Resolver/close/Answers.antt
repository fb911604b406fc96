use Rattle.ddt_resolver.proofs.StateLemmas.{order_taken}
use Rattle.ddt_resolver.proofs.resolver.Resolver.close.Goals as goal

pub invariant_of-self : goal.invariant_of-self
invariant_of-self g c =
    order_taken _ c.self.invariant c.take.new.self.lookups c.take.new.self.next c.take.result c.take.ensures.taken c.take.ensures.unchanged c.take.ensures.next
