use Rattle.ddt_resolver.specs.laws.Order.{order_after, order_moved, order_hastened}
use Rattle.ddt_resolver.proofs.laws.order_is_kept.Goals as goal

pub returns : goal.returns
returns c = record { step = order_after; hastening = order_hastened; time = order_moved }
