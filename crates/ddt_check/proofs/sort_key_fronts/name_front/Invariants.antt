use Rattle.ddt_check.specs.laws.Fronts.{IsFrontTo}
use Rattle.ddt_check.proofs.sort_key_fronts.name_front.Given as goal

abbrev pub invariant-loop-place : goal.invariant-loop-place
invariant-loop-place l = IsFrontTo l.bytes l.place l.front
