-- What the clauses of the private readers cite.
use Rattle.std.specs.Prelude.{◌≡◌, ◌≢◌, ◌⊎◌, List, ℕ, Result, Ok, Err}
use Rattle.ddt_config.specs.declared.settings.fault.Key.{Key}
use Rattle.ddt_config.specs.declared.settings.fault.SettingsFault.{SettingsFault}
use Rattle.ddt_config.specs.declared.settings.fault.SettingsFault.TheVariants.{Toml, Value, Memory}

-- the value was read, or the fault that was wanted, or memory was refused
abbrev pub Reads : {A : Type 0} → Result A SettingsFault → Result A SettingsFault → Type 0
Reads wanted (Ok a) = wanted ≡ Ok a
Reads wanted (Err fault) = fault ≢ Memory → wanted ≡ Err fault

-- a bad text is reported, or memory was refused to its copy
abbrev pub ReportsValue : Key → List ℕ → SettingsFault → Type 0
ReportsValue k text fault = fault ≢ Memory → fault ≡ Value k text

-- a refusal of memory is reported as Memory, and nothing else is
abbrev pub IsReportedAs : Type 0 → SettingsFault → Type 0
IsReportedAs memory fault = ((fault ≡ Memory) × memory) ⊎ ((fault ≡ Toml) × (memory → ⊥))
