-- The reader's chain of steps and the relation between tables and outlines are one; and a fault is one of the own keys
-- of the table at its place.
use Rattle.std.specs.Prelude.{◌≡◌, ◌↔◌, ℕ, zero, suc, true, List, Option, None, Some, Result, Ok, Err, slice_get}
use Rattle.std.specs.Option.{option_and_then}
use Rattle.toml.specs.Data.{Data, Members, as_table}
use Rattle.ddt_path.specs.declared.record.Role.{Role}
use Rattle.ddt_path.specs.declared.record.Role.TheVariants.{Node, Ms}
use Rattle.ddt_path.specs.Steps.{◌>>=◌}
use Rattle.ddt_config.specs.declared.fault.Key.{Key}
use Rattle.ddt_config.specs.declared.fault.Key.TheVariants as key
use Rattle.ddt_config.specs.declared.fault.ConfigFault.{ConfigFault}
use Rattle.ddt_config.specs.declared.place.Place.{Place}
use Rattle.ddt_config.specs.declared.place.Place.TheVariants.{Top, Authority, Child, Site}
use Rattle.ddt_config.specs.Shaped.{is_shaped}
use Rattle.ddt_config.specs.Table.{Outline, outline_in, config_in, tables_at, role_in, path_in, child_in, site_in}
use Rattle.ddt_config.specs.Place.{those_of, top_role, faulty_in}
use Rattle.ddt_config.specs.Stands.{Stands}

-- a table is read as an outline if and only if it stands for it and the outline is shaped
abbrev pub TablesAreRead : Type 0
TablesAreRead =
    (ms : Members) (o : Outline) → (config_in ms ≡ Ok o)
    ↔ (Stands ms o × (is_shaped o.role o.locators o.authorities ≡ true))

-- where the tables below an authority are
abbrev pub below_key : Role → Key
below_key Node = key.Child
below_key Ms = key.Site

-- The keys of one table by themselves, without the tables in it; the top table says the role.
abbrev pub own_keys : Members → Place → Members → Result (Unit {0}) ConfigFault
own_keys top Top ms = top_role ms >>= λ role. tables_at key.Authority ms >>= λ tables. Ok tt
own_keys top (Authority i) ms =
    path_in ms >>= λ prefix. role_in top >>= λ role. tables_at (below_key role) ms >>= λ tables. Ok tt
own_keys top (Child i j) ms = child_in ms >>= λ child. Ok tt
own_keys top (Site i j) ms = site_in ms >>= λ site. Ok tt

-- the table of a number in a list, counted from 1
abbrev pub numbered : ℕ → List Data → Option Members
numbered zero ds = None
numbered (suc n) ds = option_and_then as_table (slice_get ds n)

-- the table of a number at a key
abbrev pub table_of : Key → ℕ → Members → Option Members
table_of k n ms = numbered n (those_of (tables_at k ms))

-- the table at a place, in a top table
abbrev pub table_at : Members → Place → Option Members
table_at top Top = Some top
table_at top (Authority i) = table_of key.Authority i top
table_at top (Child i j) = option_and_then (table_of key.Child j) (table_of key.Authority i top)
table_at top (Site i j) = option_and_then (table_of key.Site j) (table_of key.Authority i top)

-- a table is the one at its place, and the fault is the first one of its own keys
pub record IsOwnFault (top : Members) (table : Place × Members) (fault : ConfigFault) : Type 0 where
  pub place : table_at top table.0 ≡ Some table.1
  pub own : own_keys top table.0 table.1 ≡ Err fault

-- the first fault of a configuration is the first one of the own keys of the table at its place
abbrev pub FaultsAreAtTheirPlaces : Type 0
FaultsAreAtTheirPlaces =
    (ms : Members) (fault : ConfigFault) → outline_in ms ≡ Err fault → IsOwnFault ms (faulty_in ms) fault
