use Rattle.std.proofs.Common.{◌≡◌, ◌++◌}
use Rattle.ddt_lines.specs.Lines.{spaced}
use Rattle.ddt_lines.proofs.referral.push_referral_set.Given as goal

abbrev pub invariant-loop-locator : goal.invariant-loop-locator
invariant-loop-locator l = l.line.items ≡ l.fn.line.items ++ spaced l.yielded
