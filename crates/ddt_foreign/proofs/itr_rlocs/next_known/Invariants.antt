use Rattle.std.proofs.Common.{◌≡◌, true}
use Rattle.std.specs.Prelude.{is_ok}
use Rattle.ddt_foreign.specs.Several.{several_at}
use Rattle.ddt_foreign.specs.Request.{rloc_at, known_in}
use Rattle.ddt_foreign.proofs.itr_rlocs.next_known.Given as goal

abbrev pub invariant-loop-left : goal.invariant-loop-left
invariant-loop-left l = record {
  read : is_ok (several_at rloc_at l.left l.rest) ≡ true;
  same : known_in l.left l.rest ≡ known_in l.count l.bytes;
}

abbrev pub decreases-loop-left : goal.decreases-loop-left
decreases-loop-left l = l.left
