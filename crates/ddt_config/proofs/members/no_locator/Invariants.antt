use Rattle.std.proofs.Common.{◌≡◌, map, drop}
use Rattle.toml.specs.View.{view}
use Rattle.ddt_config.specs.Place.{no_locator}
use Rattle.ddt_config.proofs.members.no_locator.Given as goal

abbrev pub invariant-loop-value : goal.invariant-loop-value
invariant-loop-value l = no_locator (map view l.values) ≡ no_locator (map view (drop l.value-index l.values))
