-- The configuration that bytes spell, of which a server can be built.
use Rattle.std.specs.Prelude.{ℕ, ◌≡◌, ◌<◌, List, Ok, Err}
use Rattle.std.specs.Str.{IsUtf8}
use Rattle.ddt_trie.specs.PrefixMap.{most_entries}
use Rattle.ddt_config.specs.declared.fault.ConfigFault.{ConfigFault}
use Rattle.ddt_config.specs.declared.fault.ConfigFault.TheVariants.{Toml, Shape}
use Rattle.ddt_config.specs.Entries.{entry_count}
use Rattle.ddt_config.specs.Table.{Outline, config_in_text}

-- a server has room for it
abbrev pub HasRoom : Outline → Type 0
HasRoom c = entry_count c < most_entries

-- the bytes spell this configuration, and a server has room for it
pub record IsServedConfig (bytes : List ℕ) (c : Outline) : Type 0 where
  pub text : IsUtf8 bytes
  pub stands_for : config_in_text bytes ≡ Ok c
  pub room : HasRoom c

-- the first fault of the bytes as a configuration: 1 Toml where they are no UTF-8; the fault of their text; 4 Shape
-- where a server has no room for what they spell
pub data IsConfigFault (bytes : List ℕ) : ConfigFault → Type 0 where
  no_text : ¬ (IsUtf8 bytes) → IsConfigFault bytes Toml
  of_text : {fault : ConfigFault} → IsUtf8 bytes → config_in_text bytes ≡ Err fault → IsConfigFault bytes fault
  no_room : {c : Outline} → IsUtf8 bytes → config_in_text bytes ≡ Ok c → ¬ (HasRoom c) → IsConfigFault bytes Shape
