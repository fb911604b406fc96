use Rattle.std.proofs.Common.{◌≡◌, ◌-◌, length, Some, sym, ap, ◌∙◌, arith}
use Rattle.std.specs.Prelude.{slice_get}
use Rattle.std.specs.Option.{option_copied}
use Rattle.ddt_review.proofs.FaultsLemmas.RowLemmas.{last_is_highest, last_row_bound}
use Rattle.ddt_review.proofs.faults.items_in_row.last_row.Goals as goal

pub returns-in-Some-clause-last : goal.returns-in-Some-clause-last
returns-in-Some-clause-last g c = λ x k.
    let xs = c.args.items.now in
    let at : slice_get xs (length xs - 1) ≡ Some c.in-Some.item.now =
    sym c.last.ensures.value ∙ ap option_copied c.in-Some.is in
    let le = last_is_highest g.T.Item.row_of xs c.requires c.in-Some.item.now at x k in
    let same = c.row.ensures in
    omega arith

pub returns-in-Some-clause-bound : goal.returns-in-Some-clause-bound
returns-in-Some-clause-bound g c =
    let xs = c.args.items.now in
    let at : slice_get xs (length xs - 1) ≡ Some c.in-Some.item.now =
    sym c.last.ensures.value ∙ ap option_copied c.in-Some.is in
    let le = last_row_bound g.T.Item.row_of xs c.requires c.in-Some.item.now at in
    let same = c.row.ensures in
    omega arith
