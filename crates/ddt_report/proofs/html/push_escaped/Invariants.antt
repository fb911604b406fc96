use Rattle.std.proofs.Common.{◌≡◌, ◌++◌, take}
use Rattle.ddt_report.specs.Html.{escaped}
use Rattle.ddt_report.proofs.html.push_escaped.Given as goal

abbrev pub invariant-loop-byte : goal.invariant-loop-byte
invariant-loop-byte l = l.html.items ≡ l.fn.html.items ++ escaped (take l.byte-index l.text)
