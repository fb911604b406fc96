-- Why bytes give no configuration.
use Rattle.std.proofs.Common.{◌≡◌, ◌≢◌, ◌<◌, ℕ, List, Result, Ok, Err, IfErr}
use Rattle.std.specs.Str.{IsUtf8}
use Rattle.ddt_config.specs.declared.config.ServerConfig.{ServerConfig}
use Rattle.ddt_config.specs.declared.fault.ConfigFault.{ConfigFault}
use Rattle.ddt_config.specs.declared.fault.ConfigFault.TheVariants.{Shape, Memory}
use Rattle.ddt_config.specs.Entries.{entry_count}
use Rattle.ddt_trie.specs.PrefixMap.{most_entries}
use Rattle.ddt_config.specs.Table.{StandsFor, outline}
use Rattle.ddt_node.specs.Spelled.{IsConfigFault, no_room}

-- a configuration that a server has no room for
pub too_large : (bytes : List ℕ) (c : ServerConfig) (result : Result ServerConfig ConfigFault) → IsUtf8 bytes → StandsFor bytes c
    → IfErr result (λ fault. (fault ≡ Shape) × ¬ (entry_count (outline c) < most_entries)) → IfErr result (λ fault. fault ≢ Memory → IsConfigFault bytes fault)
too_large bytes c (Ok config) u s h = tt
too_large bytes c (Err fault) u s (is, full) = rw is (λ known. no_room u s full)
