use Rattle.std.proofs.Common.{◌≡◌, ◌++◌, take}
use Rattle.ddt_review.specs.Sheets.Told.{lines_text}
use Rattle.ddt_review.proofs.sheets.fault_text.push_lines.Given as goal

abbrev pub invariant-loop-fault : goal.invariant-loop-fault
invariant-loop-fault l = l.text.items ≡ l.fn.text.items ++ lines_text l.name (take l.fault-index l.faults)
