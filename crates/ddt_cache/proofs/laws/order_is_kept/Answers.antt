use Rattle.ddt_cache.specs.laws.Order.{nothing_in_order, moved_in_order, stored_in_order, forgotten_in_order}
use Rattle.ddt_cache.proofs.laws.order_is_kept.Goals as goal

pub returns : goal.returns
returns c = record { empty = nothing_in_order; moved = moved_in_order; stored = stored_in_order; forgotten = forgotten_in_order }
