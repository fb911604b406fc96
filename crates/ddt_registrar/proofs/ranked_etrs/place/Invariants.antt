use Rattle.std.proofs.Common.{◌≡◌, ◌+◌, ◌-◌, ◌≤◌, length, drop}
use Rattle.ddt_foreign.specs.Order.{place_of}
use Rattle.ddt_registrar.proofs.ranked_etrs.place.Given as goal

abbrev pub invariant-loop-at : goal.invariant-loop-at
invariant-loop-at l = record {
  within : l.at ≤ length l.ranked;
  so_far : l.at + place_of l.priority (drop l.at l.ranked) ≡ place_of l.priority l.ranked;
}

abbrev pub decreases-loop-at : goal.decreases-loop-at
decreases-loop-at l = length l.ranked - l.at
