use Rattle.std.proofs.Common.{arith}
use Rattle.ddt_resolver.proofs.StateLemmas.{order_fresh}
use Rattle.ddt_resolver.proofs.resolver.Resolver.new.Goals as goal

pub invariant_of-result : goal.invariant_of-result
invariant_of-result g c =
    rw (c.new.ensures, c.new-2.ensures.lookups, c.new-2.ensures.next) (order_fresh _ c.args.me c.args.seed c.requires c.as_slice-few.ensures.bound (omega (arith, c.ranges.seed.fits)))
