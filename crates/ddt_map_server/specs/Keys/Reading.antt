-- What the clauses of the readers cite.
use Rattle.std.specs.Prelude.{◌≡◌, ◌≢◌, ◌⊎◌, Result, Ok, Err}
use Rattle.ddt_map_server.specs.declared.keys.fault.KeysFault.{KeysFault}
use Rattle.ddt_map_server.specs.declared.keys.fault.KeysFault.TheVariants.{Toml, Memory}

-- the value was read, or the fault that was wanted, or memory was refused
abbrev pub Reads : {A : Type 0} → Result A KeysFault → Result A KeysFault → Type 0
Reads wanted (Ok a) = wanted ≡ Ok a
Reads wanted (Err fault) = fault ≢ Memory → wanted ≡ Err fault

-- a refusal of memory is told as Memory, and nothing else is
abbrev pub IsToldAs : Type 0 → KeysFault → Type 0
IsToldAs memory fault = ((fault ≡ Memory) × memory) ⊎ ((fault ≡ Toml) × (memory → ⊥))
