use Rattle.std.proofs.Common.{◌≡◌, map, take}
use Rattle.std.specs.List.{All}
use Rattle.toml.specs.View.{view}
use Rattle.ddt_config.proofs.values.array_value.Given as goal

abbrev pub invariant-loop-item : goal.invariant-loop-item
invariant-loop-item g l = record {
  written : map view l.values.items ≡ map g.T.Written.written (take l.item-index l.items);
  spelled : All g.T.Written.is_spelled (take l.item-index l.items);
}
