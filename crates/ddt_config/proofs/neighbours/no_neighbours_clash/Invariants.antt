use Rattle.std.proofs.Common.{ℕ, ◌+◌, ◌<◌}
use Rattle.ddt_config.specs.Reading.{clashes}
use Rattle.ddt_config.specs.laws.Neighbour.{AreApartAt}
use Rattle.ddt_config.proofs.neighbours.no_neighbours_clash.Given as goal

abbrev pub invariant-loop-later : goal.invariant-loop-later
invariant-loop-later l = (k : ℕ) → k + 1 < l.later → AreApartAt (clashes l.clash) l.prefixes k (k + 1)
