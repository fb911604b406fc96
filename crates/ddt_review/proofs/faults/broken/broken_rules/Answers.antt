use Rattle.std.proofs.Common.{◌+◌, sym, subst, arith}
use Rattle.ddt_review.proofs.FaultsLemmas.ListLemmas.{AreToldBelow, told_first, told_more, told_all}
use Rattle.ddt_review.proofs.faults.broken.broken_rules.Goals as goal

pub loop-row-init : goal.loop-row-init
loop-row-init c = subst (AreToldBelow c.args.register.now 0) (sym c.new-list.ensures.items)
    (told_first c.args.register.now)

pub loop-row-preserved : goal.loop-row-preserved
loop-row-preserved c =
    let r = c.args.register.now in
    let row = c.loop-row.row in
    subst (AreToldBelow r (row + 1))
    (sym (c.in_ok-push_faults.ensures r c.in_ok-index.ensures c.of-in-loop-row.ensures))
    (told_more r row c.loop-row.list.items c.loop-row.invariant)

pub returns : goal.returns
returns c =
    let end = c.loop-row-test.false in
    told_all c.args.register.now c.loop-row.row c.loop-row.list.items
    (λ rule n e. let lt = c.end_of_rows-row-end.ensures rule n e in omega arith) c.loop-row.invariant
