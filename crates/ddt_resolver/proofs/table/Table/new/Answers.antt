use Rattle.ddt_resolver.proofs.TableLemmas.{no_table, no_count, nothing_at}
use Rattle.ddt_resolver.proofs.table.Table.new.Goals as goal

pub invariant_of-result : goal.invariant_of-result
invariant_of-result c = (no_table c.new.result _ _ c.new.ensures.empty (nothing_at c.new-2.result c.new-2.ensures.empty), no_count c.new.result c.new.ensures.empty)
