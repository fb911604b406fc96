use Rattle.std.proofs.Common.{◌≡◌, ◌++◌, Ok, drop, map}
use Rattle.toml.specs.View.{view}
use Rattle.ddt_path.specs.Steps.{◌>>=◌}
use Rattle.ddt_config.specs.Table.{each, item_of}
use Rattle.ddt_config.proofs.config_item.read_each.Given as goal

abbrev pub invariant-loop-value : goal.invariant-loop-value
invariant-loop-value g l =
    let examine = each (item_of l.key (g.T.ConfigItem.item_in l.role)) in
    examine (map view l.values) ≡ (examine (map view (drop l.value-index l.values)) >>= λ rest. Ok (l.items.items ++ rest))
