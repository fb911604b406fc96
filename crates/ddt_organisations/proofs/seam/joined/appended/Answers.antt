use Rattle.std.proofs.Common.{◌≡◌, ◌++◌, ◌+◌, ◌<◌, ◌≤◌, ℕ, List, [], ◌∷◌, true, false, length, map, Vec, refl, sym, ap, subst, ◌∙◌, arith, rules}
use Rattle.std.specs.List.{filter}
use Rattle.std.proofs.lemmas.Fn.{says_at}
use Rattle.std.proofs.lemmas.List.{take_all, length-append}
use Rattle.ddt_register.specs.Rows.{most_rows}
use Rattle.ddt_organisations.specs.Seam.Joined.{numbered}
use Rattle.ddt_organisations.proofs.SeamLemmas.RowLemmas.{row_kept, row_left_out}
use Rattle.ddt_organisations.proofs.SeamLemmas.NumberLemmas.{item_more}
use Rattle.ddt_organisations.proofs.seam.joined.appended.Goals as goal
use Rattle.ddt_organisations.proofs.seam.joined.appended.Goals.{then-test+in_ok-in_row+in_ok-push, else-test}

pub loop-item-preserved : goal.loop-item-preserved
loop-item-preserved g c =
    let items = c.args.items.now in
    let x = c.item-item.result in
    let i = c.loop-item.item-index in
    let all = c.loop-item.all.items in (
      (λ passes h.
          let text = g.T.Row.text in
          let before = c.loop-item.invariant.0 passes h in
          elim c.if-test.branch [
            | then-test+in_ok-in_row+in_ok-push w ↦
                let good : passes x ≡ true = sym (h x c.test.result (says_at g.F.Fn c.test.ensures refl)) ∙ w.if-test.true in
                rw w.all-is
                (ap (map text) w.in_ok-push.ensures.items
                ∙ row_kept text passes items i x c.loop-item-test.true c.item-item.is c.args.rows.items all before
                w.in_ok-in_row.field-0 w.in_ok-in_row.ensures.text good)
            | else-test w ↦
                let bad : passes x ≡ false = sym (h x c.test.result (says_at g.F.Fn c.test.ensures refl)) ∙ w.if-test.false in
                rw w.all-is
                (row_left_out text passes items i x c.loop-item-test.true c.item-item.is c.args.rows.items all before bad)
          ]),
      (λ fits first.
          let n = c.args.before in
          elim c.if-test.branch [
            | then-test+in_ok-in_row+in_ok-push w ↦
                let item = w.in_ok-in_row.field-0 in
                let more : c.if-test.all.items ≡ all ++ item ∷ [] =
                ap (λ (v : Vec _ _). v.items) w.all-is ∙ w.in_ok-push.ensures.items in
                let total : length c.if-test.all.items ≡ length all + 1 = ap length more ∙ length-append all (item ∷ []) in
                let up : n + length all < 65535 = omega (arith, total, fits) in
                let next : g.T.Item.row_of item ≡ n + length all + 1 = search rules in
                ap (λ (l : List _). numbered n (map g.T.Item.row_of l)) more
                ∙ item_more g.T.Item.row_of n all item (c.loop-item.invariant.1 (omega (arith, up)) first) next
            | else-test w ↦
                let same = ap (λ (v : Vec _ _). v.items) w.all-is in
                let less : n + length all ≤ most_rows = subst (λ (l : List _). n + length l ≤ most_rows) same fits in
                ap (λ (l : List _). numbered n (map g.T.Item.row_of l)) same ∙ c.loop-item.invariant.1 less first
          ]),
      elim c.if-test.branch [
        | then-test+in_ok-in_row+in_ok-push w ↦
            let before : length c.args.rows.items ≤ length all = c.loop-item.invariant.2 in
            let total = ap (λ (v : Vec _ _). length v.items) w.all-is ∙ ap length w.in_ok-push.ensures.items
            ∙ length-append all (w.in_ok-in_row.field-0 ∷ []) in
            omega (arith, before, total)
        | else-test w ↦
            let before : length c.args.rows.items ≤ length all = c.loop-item.invariant.2 in
            let total = ap (λ (v : Vec _ _). length v.items) w.all-is in
            omega (arith, before, total)
      ],
    )

pub returns-clause-text : goal.returns-clause-text
returns-clause-text g c = λ passes h.
    c.loop-item.invariant.0 passes h
    ∙ ap (λ (l : List _). map g.T.Row.text c.args.rows.items ++ map g.T.Row.text (filter passes l))
    (take_all c.loop-item.item-index c.args.items.now c.loop-item-test.false)
