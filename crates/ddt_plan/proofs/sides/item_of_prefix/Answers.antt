use Rattle.std.proofs.Common.{rules, ◌≡◌, ◌<◌, true, false, length, sym}
use Rattle.std.proofs.lemmas.List.Sorted.{IsPartitionPoint-from_clause}
use Rattle.ddt_path.specs.Covers.{is_same_path}
use Rattle.ddt_plan.proofs.SliceLemmas.{is_before, before_parted, all_before, first_same, first_other}
use Rattle.ddt_plan.proofs.sides.item_of_prefix.Goals as goal

pub returns-then-first-items : goal.returns-then-first-items
returns-then-first-items g c =
    let path = g.T.Prefixed.path in
    let xs = c.args.items.now in
    let at = c.args.at in
    let first = c.partition_point-first.result in
    let point = IsPartitionPoint-from_clause (is_before path xs c.requires at) xs first
    c.partition_point-first.ensures.partitioned (before_parted path xs c.requires at) (λ a r q k. search rules) in
    let end : first ≡ length xs = search rules in
    sym (all_before path xs c.requires at first point end)

pub returns-then-eq : goal.returns-then-eq
returns-then-eq g c =
    let path = g.T.Prefixed.path in
    let xs = c.args.items.now in
    let at = c.args.at in
    let first = c.partition_point-first.result in
    let w = c.index-items-first.result in
    let point = IsPartitionPoint-from_clause (is_before path xs c.requires at) xs first
    c.partition_point-first.ensures.partitioned (before_parted path xs c.requires at) (λ a r q k. search rules) in
    let inside : first < length xs = search rules in
    let same : is_same_path (path w) at ≡ true = search rules in
    sym (first_same path xs c.requires at first point w inside c.index-items-first.is same)

pub returns-else-eq : goal.returns-else-eq
returns-else-eq g c =
    let path = g.T.Prefixed.path in
    let xs = c.args.items.now in
    let at = c.args.at in
    let first = c.partition_point-first.result in
    let w = c.index-items-first.result in
    let point = IsPartitionPoint-from_clause (is_before path xs c.requires at) xs first
    c.partition_point-first.ensures.partitioned (before_parted path xs c.requires at) (λ a r q k. search rules) in
    let inside : first < length xs = search rules in
    let other : is_same_path (path w) at ≡ false = search rules in
    sym (first_other path xs c.requires at first point w inside c.index-items-first.is other)
