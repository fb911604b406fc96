use Rattle.std.proofs.Common.{◌≡◌, ◌++◌, Ok, drop, map}
use Rattle.toml.specs.View.{view}
use Rattle.ddt_path.specs.Steps.{◌>>=◌}
use Rattle.ddt_map_server.specs.Keys.Table.{each, entry_of}
use Rattle.ddt_map_server.proofs.keys.key_file.read_each.Given as goal

abbrev pub invariant-loop-value : goal.invariant-loop-value
invariant-loop-value l =
    let examine = each entry_of in
    examine (map view l.values) ≡ (examine (map view (drop l.value-index l.values)) >>= λ rest. Ok (l.keys.items ++ rest))
