use Rattle.std.proofs.Common.{◌≡◌, ◌++◌, take}
use Rattle.std.specs.List.{flat_map}
use Rattle.ddt_report.specs.Html.{cell_text}
use Rattle.ddt_report.proofs.html.push_cells.Given as goal

abbrev pub invariant-loop-field : goal.invariant-loop-field
invariant-loop-field l = l.html.items ≡ l.fn.html.items ++ flat_map cell_text (take l.field-index l.fields)
