use Rattle.std.proofs.Common.{sym, arith}
use Rattle.std.proofs.lemmas.List.{length-take-le, take_all}
use Rattle.ddt_report.proofs.sections.shown.Goals as goal

pub slice_bounds-result-end : goal.slice_bounds-result-end
slice_bounds-result-end c = sym (length-take-le 1000 c.args.rows.now (omega (arith, c.if-rows-le-MOST_ROWS.false)))

pub returns-then-rows-le-MOST_ROWS : goal.returns-then-rows-le-MOST_ROWS
returns-then-rows-le-MOST_ROWS c = sym (take_all 1000 c.args.rows.now c.if-rows-le-MOST_ROWS.true)
