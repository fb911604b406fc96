use Rattle.std.proofs.Common.{true, false}
use Rattle.std.proofs.lemmas.List.{get_or_default}
use Rattle.ddt_check.proofs.MarkLemmas.{none_in_column}
use Rattle.ddt_check.proofs.rules.locators.first_in.Goals as goal

pub returns-then-not-marks-at : goal.returns-then-not-marks-at
returns-then-not-marks-at c = λ r column moved.
    let marks = c.args.marks.now in
    none_in_column r column c.args.l c.args.cells.now marks moved c.requires.marked
    (rw (← c.locator_pair-family.ensures, ← c.slot-at.ensures, get_or_default marks c.slot-at.result true false c.if-at-marks.true)
    c.if-not-marks-at.true)
