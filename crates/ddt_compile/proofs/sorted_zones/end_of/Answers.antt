use Rattle.std.proofs.Common.{rules, ◌+◌, ◌-◌, length, drop, length-drop, arith}
use Rattle.std.proofs.lemmas.List.{take_all}
use Rattle.std.proofs.lemmas.List.Sorted.{IsPartitionPoint-from_clause}
use Rattle.ddt_path.specs.Covers.{covers}
use Rattle.ddt_compile.proofs.SortedLemmas.{covered_parted, end_is}
use Rattle.ddt_compile.proofs.sorted_zones.end_of.Goals as goal

pub returns : goal.returns
returns c =
    let xs = c.args.sorted.now in
    let w = c.index-sorted-at.result in
    let count = c.partition_point.result in
    let behind = drop (c.args.at + 1) xs in
    let whole = take_all (length xs - (c.args.at + 1)) behind (omega (arith, length-drop (c.args.at + 1) xs)) in
    end_is xs c.requires.order c.args.at w c.requires.at c.index-sorted-at.is count (rw whole at c.partition_point.ensures.bound)
    (IsPartitionPoint-from_clause (λ z. covers w.prefix z.prefix) behind count (rw whole at c.partition_point.ensures.partitioned)
    (covered_parted xs c.requires.order c.args.at w c.requires.at c.index-sorted-at.is) (λ a r q k. search rules))
