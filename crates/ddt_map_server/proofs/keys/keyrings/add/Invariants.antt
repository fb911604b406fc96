use Rattle.std.proofs.Common.{◌≡◌, ◌++◌, take, drop, map}
use Rattle.ddt_map_server.specs.Keys.Keyrings.{given}
use Rattle.ddt_map_server.proofs.keys.keyrings.add.Given as goal

abbrev pub invariant-loop-at : goal.invariant-loop-at
invariant-loop-at l = l.keyrings ≡ map (given l.key) (take l.at l.initial.keyrings) ++ drop l.at l.initial.keyrings
