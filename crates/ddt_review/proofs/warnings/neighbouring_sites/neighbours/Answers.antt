use Rattle.std.proofs.Common.{◌+◌, ◌-◌, ◌≤◌, rules, map, length, arith}
use Rattle.std.proofs.lemmas.List.{length-map}
use Rattle.std.proofs.lemmas.List.Sorted.{IsPartitionPoint-from_clause}
use Rattle.ddt_path.specs.laws.Member.{in_contained}
use Rattle.ddt_review.proofs.WarningsLemmas.OrderLemmas.{site_at, stands_before, before_parted, point_of_sites, site_there, none_first, none_last, beside}
use Rattle.ddt_review.proofs.warnings.neighbouring_sites.neighbours.Goals as goal
use Rattle.ddt_review.proofs.warnings.neighbouring_sites.neighbours.Goals.{then-at-eq0-via-then-at-eq0, then-at-eq0-via-else-at-eq0+then-at-order}

pub returns-then-at-eq0 : goal.returns-then-at-eq0
returns-then-at-eq0 c = λ r accepted order member.
    let ys = c.args.order.now in
    let xs = map site_at ys in
    let s = c.args.site.now in
    let at = c.partition_point-at.result in
    let point = point_of_sites s ys at c.partition_point-at.ensures.bound
    (IsPartitionPoint-from_clause (stands_before ys order.1 s) ys at
    c.partition_point-at.ensures.partitioned (before_parted ys order.1 s) (λ a r q k. search rules)) in
    elim c.then-at-eq0.branch [
      | then-at-eq0-via-then-at-eq0 w ↦
          none_first r accepted xs order.0 order.1 s (in_contained r.sites s member) at point w.if-at-eq0.true
      | then-at-eq0-via-else-at-eq0+then-at-order w ↦
          none_last r accepted xs order.0 order.1 s (in_contained r.sites s member) at point
          (let n = length-map ys site_at in let le = w.if-at-order.true in omega arith)
    ]

pub returns : goal.returns
returns c = λ r accepted order member.
    let ys = c.args.order.now in
    let xs = map site_at ys in
    let s = c.args.site.now in
    let at = c.partition_point-at.result in
    let point = point_of_sites s ys at c.partition_point-at.ensures.bound
    (IsPartitionPoint-from_clause (stands_before ys order.1 s) ys at
    c.partition_point-at.ensures.partitioned (before_parted ys order.1 s) (λ a r q k. search rules)) in
    let ne = c.if-at-eq0.false in
    let lt = c.if-at-order.false in
    let n = length-map ys site_at in
    let most : at ≤ length ys = c.partition_point-at.ensures.bound in
    beside r accepted xs order.0 order.1 s (in_contained r.sites s member) at point c.index-order-at.result.now
    c.index-order-at-2.result.now (omega arith) (omega arith)
    (site_there ys (at - 1) c.index-order-at.result s (omega arith) c.index-order-at.is)
    (site_there ys (at + 1) c.index-order-at-2.result s (omega arith) c.index-order-at-2.is)
