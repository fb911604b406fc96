use Rattle.ddt_resolver.proofs.StateLemmas.{order_stored, order_taken}
use Rattle.ddt_resolver.proofs.resolver.Resolver.save_and_close.Goals as goal

pub invariant_of-self-2 : goal.invariant_of-self-2
invariant_of-self-2 g c =
    rw c.in_ok-apply.ensures.applied
    (order_taken _ (order_stored _ c.self.invariant c.args.told.now c.requires) c.take.new.self.lookups c.take.new.self.next c.take.result c.take.ensures.taken c.take.ensures.unchanged c.take.ensures.next)
