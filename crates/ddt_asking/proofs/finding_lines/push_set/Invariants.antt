use Rattle.std.proofs.Common.{◌≡◌, ◌++◌}
use Rattle.ddt_lines.specs.Lines.{spaced}
use Rattle.ddt_asking.proofs.finding_lines.push_set.Given as goal

-- the locators so far
abbrev pub invariant-loop-locator : goal.invariant-loop-locator
invariant-loop-locator l = l.line.items ≡ l.fn.line.items ++ spaced l.yielded
