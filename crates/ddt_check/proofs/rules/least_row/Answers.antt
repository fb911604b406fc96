use Rattle.std.proofs.Common.{◌≡◌, Some, ap, refl}
use Rattle.std.proofs.lemmas.Fn.{says_at}
use Rattle.ddt_check.proofs.LeastLemmas.{passes_at, least_if, least_of_all}
use Rattle.ddt_check.proofs.rules.least_row.Goals as goal
use Rattle.ddt_check.proofs.rules.least_row.Goals.{then-test, else-test}

pub loop-item-preserved : goal.loop-item-preserved
loop-item-preserved g c = λ passes h.
    let item = c.item-item.result in
    let answer : c.test.result ≡ passes item = h item c.test.result (says_at g.F.Fn c.test.ensures refl) in
    let step = λ (low : _) (lows : _). least_if g.T.Item.row_of passes c.args.items.now c.loop-item.item-index item
    c.loop-item.least low c.test.result c.loop-item-test.true c.item-item.is answer lows (c.loop-item.invariant passes h) in
    elim c.if-test.branch [
      | then-test w ↦ rw w.least-is (step (Some w.lower.result) (rw (w.if-test.true, ← w.row.ensures) (ap Some w.lower.ensures)))
      | else-test w ↦ rw w.least-is (step c.loop-item.least (rw w.if-test.false))
    ]

pub returns : goal.returns
returns g c = λ passes all h moved.
    least_of_all (passes_at g.T.Item.row_of passes) all c.args.items.now c.loop-item.item-index c.loop-item.least moved
    c.loop-item-test.false (c.loop-item.invariant passes h)
