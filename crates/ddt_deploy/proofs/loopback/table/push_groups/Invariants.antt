use Rattle.std.proofs.Common.{◌≡◌, ◌++◌}
use Rattle.std.specs.Iterator.Adapters.{zip_first, zip_second}
use Rattle.std.specs.Slice.Iter.{iter_rest}
use Rattle.ddt_deploy.specs.Loopback.Table.{group_lines}
use Rattle.ddt_deploy.proofs.loopback.table.push_groups.Given as goal

abbrev pub invariant-loop-old : goal.invariant-loop-old
invariant-loop-old l = l.text.items ++ group_lines (iter_rest (zip_first l.old-iterator)) (iter_rest (zip_second l.old-iterator))
    ≡ l.fn.text.items ++ group_lines l.olds l.news
