use Rattle.std.proofs.Common.{ℕ, ◌+◌, ◌<◌, get_or}
use Rattle.ddt_check.proofs.rules.fingerprints.are_increasing.Given as goal

abbrev pub invariant-loop-at : goal.invariant-loop-at
invariant-loop-at l = (k : ℕ) → k + 1 < l.at → get_or l.numbers k 0 < get_or l.numbers (k + 1) 0
