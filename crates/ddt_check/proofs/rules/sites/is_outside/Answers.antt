use Rattle.std.proofs.Common.{rules, map, ◌-◌, ◌≤◌, length, not, ap, ◌∙◌, arith}
use Rattle.std.proofs.lemmas.List.{length-map, get_or-map}
use Rattle.std.proofs.lemmas.List.Sorted.{IsPartitionPoint-from_clause}
use Rattle.ddt_check.specs.laws.Outside.{is_up_to, up_to_parted, outside_at, outside_first}
use Rattle.ddt_check.proofs.EntryKinds.{entry_zone}
use Rattle.ddt_check.proofs.EntryLemmas.{point_of_items}
use Rattle.ddt_check.proofs.rules.sites.is_outside.Goals as goal

pub returns-then-after-eq0 : goal.returns-then-after-eq0
returns-then-after-eq0 c = λ r moved single leaves.
    let entries = c.args.zones.now in
    let xs = map entry_zone entries in
    let x = c.args.s.now.prefix in
    let test = is_up_to xs c.requires x in
    let after = c.partition_point-after.result in
    let point = point_of_items entry_zone test entries after c.partition_point-after.ensures.bound
    (λ p. IsPartitionPoint-from_clause (λ e. test (entry_zone e)) entries after
    c.partition_point-after.ensures.partitioned p (λ a r q k. search (rules, c.of-site.ensures)))
    (up_to_parted xs c.requires x) in
    outside_first xs c.requires x r moved after point c.if-after-eq0.true

pub returns : goal.returns
returns c = λ r moved single leaves.
    let entries = c.args.zones.now in
    let xs = map entry_zone entries in
    let x = c.args.s.now.prefix in
    let after = c.partition_point-after.result in
    let test = is_up_to xs c.requires x in
    let point = point_of_items entry_zone test entries after c.partition_point-after.ensures.bound
    (λ p. IsPartitionPoint-from_clause (λ e. test (entry_zone e)) entries after
    c.partition_point-after.ensures.partitioned p (λ a r q k. search (rules, c.of-site.ensures)))
    (up_to_parted xs c.requires x) in
    let most : after ≤ length entries = c.partition_point-after.ensures.bound in
    let ne = c.if-after-eq0.false in
    let w = c.index-zones-after.result in
    let d = entry_zone w in
    ap not c.is_right.ensures ∙ rw (get_or-map entry_zone entries (after - 1) w d (omega arith)) at
    (outside_at xs c.requires x r moved after point single leaves (after - 1) d
    (omega arith) (omega (arith, length-map entries entry_zone)))
