use Rattle.std.proofs.Common.{◌≡◌, ◌++◌, take}
use Rattle.ddt_lines.specs.Lines.{spaced}
use Rattle.ddt_asking.proofs.finding_lines.push_record.Given as goal

-- the locators so far
abbrev pub invariant-loop-locator : goal.invariant-loop-locator
invariant-loop-locator l = l.line.items ≡ l.initial.line.items ++ spaced (take l.locator-index l.locator-items)
