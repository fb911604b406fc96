use Rattle.std.proofs.Common.{◌≡◌, ◌++◌}
use Rattle.ddt_lines.specs.Lines.{spaced}
use Rattle.ddt_lines.proofs.request.push_itr_rlocs.Given as goal

abbrev pub invariant-loop-rloc : goal.invariant-loop-rloc
invariant-loop-rloc l = l.line.items ≡ l.fn.line.items ++ spaced l.yielded
