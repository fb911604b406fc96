use Rattle.std.proofs.Common.{◌≡◌, ◌++◌, Ok, drop, map}
use Rattle.toml.specs.View.{view}
use Rattle.ddt_path.specs.Steps.{◌>>=◌}
use Rattle.ddt_config.specs.Settings.Table.{each, locator_of}
use Rattle.ddt_config.proofs.settings.members.read_locators.Given as goal

abbrev pub invariant-loop-value : goal.invariant-loop-value
invariant-loop-value l =
    let examine = each (locator_of l.key) in
    examine (map view l.values) ≡ (examine (map view (drop l.value-index l.values)) >>= λ rest. Ok (l.locators.items ++ rest))
