-- Why bytes give no configuration.
use Rattle.std.proofs.Common.{◌≢◌, ℕ, List}
use Rattle.ddt_config.specs.declared.fault.ConfigFault.{ConfigFault}
use Rattle.ddt_config.specs.declared.fault.ConfigFault.TheVariants.{Toml, Field, Value, Shape, Memory}
use Rattle.ddt_node.specs.Spelled.{IsConfigFault}
use Rattle.ddt_commands.specs.Commands.Serve.{IsBadConfig, config_refusal}

-- a fault of the bytes, unless memory ran out
pub bad_config : (bytes : List ℕ) (fault : ConfigFault) → (fault ≢ Memory → IsConfigFault bytes fault) → IsBadConfig bytes (config_refusal fault)
bad_config bytes Toml h = h (λ e. cc)
bad_config bytes (Field k) h = h (λ e. cc)
bad_config bytes (Value k) h = h (λ e. cc)
bad_config bytes Shape h = h (λ e. cc)
bad_config bytes Memory h = tt
