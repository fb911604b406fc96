use Rattle.std.proofs.Common.{◌≡◌, ◌∙◌, sym, ap, refl, Some, ℕ, true, false}
use Rattle.std.proofs.lemmas.Fn.{says_at}
use Rattle.ddt_register.proofs.RowLemmas.{first_row-here, first_row-later}
use Rattle.ddt_register.proofs.item.first_row.Goals as goal

pub returns-then-test : goal.returns-then-test
returns-then-test g c = λ passes h.
    let item = c.item-item.result in
    let good : passes item ≡ true = sym (h item c.test.result (says_at g.F.Fn c.test.ensures refl)) ∙ c.if-test.true in
    ap (λ (n : ℕ). Some n) c.row.ensures
    ∙ sym (first_row-here g.T.Item.row_of passes c.args.items.now c.loop-item.item-index item c.loop-item-test.true c.item-item.is good)
    ∙ c.loop-item.invariant passes h

pub loop-item-preserved : goal.loop-item-preserved
loop-item-preserved g c = λ passes h.
    let item = c.item-item.result in
    let bad : passes item ≡ false = sym (h item c.test.result (says_at g.F.Fn c.test.ensures refl)) ∙ c.if-test.false in
    first_row-later g.T.Item.row_of passes c.args.items.now c.loop-item.item-index item c.loop-item-test.true c.item-item.is bad ∙ c.loop-item.invariant passes h
