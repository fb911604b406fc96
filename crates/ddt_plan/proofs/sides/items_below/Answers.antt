use Rattle.std.proofs.Common.{rules, ◌∙◌}
use Rattle.std.proofs.lemmas.List.Sorted.{IsPartitionPoint-from_clause}
use Rattle.ddt_path.specs.Covers.{covers}
use Rattle.ddt_plan.proofs.SliceLemmas.{is_up_to, up_to_parted, covered_parted, below_together}
use Rattle.ddt_plan.proofs.sides.items_below.Goals as goal

pub returns : goal.returns
returns g c =
    let path = g.T.Prefixed.path in
    let xs = c.args.items.now in
    let at = c.args.at in
    let first = c.partition_point-first.result in
    let behind = c.split_at.result.1.now in
    let count = c.partition_point-count.result in
    let point = IsPartitionPoint-from_clause (is_up_to path xs c.requires at) xs first
    c.partition_point-first.ensures.partitioned (up_to_parted path xs c.requires at) (λ a r q k. search rules) in
    let end = IsPartitionPoint-from_clause (λ a. covers at (path a)) behind count
    c.partition_point-count.ensures.partitioned
    (covered_parted path xs c.requires at first point behind c.split_at.ensures.back c.split_at.ensures.back_len)
    (λ a r q k. search rules) in
    c.split_at-2.ensures.front
    ∙ below_together path xs c.requires at first point behind c.split_at.ensures.back c.split_at.ensures.back_len count end
