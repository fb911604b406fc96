use Rattle.std.proofs.Common.{rules}
use Rattle.std.proofs.lemmas.List.Sorted.{IsPartitionPoint-from_clause}
use Rattle.ddt_check.specs.laws.Outside.{is_up_to, up_to_parted}
use Rattle.ddt_compile.proofs.sorted_zones.count_up_to.Goals as goal

pub returns-clause-point : goal.returns-clause-point
returns-clause-point c =
    let xs = c.args.sorted.now in
    IsPartitionPoint-from_clause (is_up_to xs c.requires c.args.prefix) xs c.partition_point.result
    c.partition_point.ensures.partitioned (up_to_parted xs c.requires c.args.prefix) (λ a r q k. search rules)
