use Rattle.std.proofs.Common.{◌≡◌, ◌++◌, take}
use Rattle.std.specs.List.{flat_map}
use Rattle.ddt_report.specs.Sections.{row_text}
use Rattle.ddt_report.proofs.sections.push_each.Given as goal

abbrev pub invariant-loop-row : goal.invariant-loop-row
invariant-loop-row l = l.html.items ≡ l.fn.html.items ++ flat_map (row_text l.table) (take l.row-index l.rows)
