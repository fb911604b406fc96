use Rattle.std.proofs.Common.{rules}
use Rattle.std.proofs.lemmas.List.Sorted.{ranks_by, answers_always}
use Rattle.std.specs.Ordering.{is_lt}
use Rattle.ddt_check.specs.Order.{in_order}
use Rattle.ddt_check.specs.laws.Order.{in_order_total}
use Rattle.ddt_check.proofs.EntryLemmas.{items_in_order}
use Rattle.ddt_check.proofs.entries.sort_entries.Goals as goal

pub returns-clause-sorted : goal.returns-clause-sorted
returns-clause-sorted g c =
    let key = g.T.Keyed.key in
    let row = g.T.Item.row_of in
    items_in_order (λ (e : _). e.item.now) key row c.sort_unstable_by.new.self
    (c.sort_unstable_by.ensures.sorted (λ (x y : _). is_lt (in_order key row x.item.now y.item.now))
    (ranks_by (in_order_total key row) (λ (e : _). e.item.now))
    (answers_always _ _ _ (λ f a r k h. search rules)))
