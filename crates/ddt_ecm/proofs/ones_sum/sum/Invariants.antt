use Rattle.std.proofs.Common.{◌≡◌, ◌≤◌, ◌+◌, ◌*◌, length}
use Rattle.ddt_ecm.specs.laws.Sum.{words}
use Rattle.ddt_ecm.proofs.ones_sum.sum.Given as goal

abbrev pub invariant-loop-rest : goal.invariant-loop-rest
invariant-loop-rest l = record {
  so_far : l.sum + words l.rest ≡ l.fn.start + words l.fn.bytes;
  small : 2 * l.sum + 65535 * length l.rest ≤ 2 * 65535 + 65535 * length l.fn.bytes;
}

abbrev pub decreases-loop-rest : goal.decreases-loop-rest
decreases-loop-rest l = length l.rest
