-- Where the first fault of a table is: in which of its tables, and the text that isn't of its key's form. The order of
-- examination is that of the reader.
use Rattle.std.specs.Prelude.{◌≡◌, ◌≢◌, ℕ, ◌+◌, Bool, not, if◌then◌else◌, List, [], ◌∷◌, Option, None, Some, is_ok, Result, Ok, Err, string_bytes}
use Rattle.std.specs.List.{find, filter_map}
use Rattle.std.specs.Option.{option_map, option_map_or, option_or, option_and_then}
use Rattle.toml.specs.Data.{Data, Members, as_str, as_table}
use Rattle.ddt_path.specs.declared.record.Role.{Role}
use Rattle.ddt_path.specs.declared.record.Role.TheVariants.{Node, Ms}
use Rattle.ddt_path.specs.Steps.{◌>>=◌}
use Rattle.ddt_text.specs.FirstFault.{locator_in}
use Rattle.ddt_config.specs.declared.fault.Key.{Key}
use Rattle.ddt_config.specs.declared.fault.Key.TheVariants as key
use Rattle.ddt_config.specs.declared.fault.ConfigFault.{ConfigFault}
use Rattle.ddt_config.specs.declared.fault.ConfigFault.TheVariants.{Value, Memory}
use Rattle.ddt_config.specs.declared.place.Place.{Place}
use Rattle.ddt_config.specs.declared.place.PlacedFault.{PlacedFault}
use Rattle.ddt_config.specs.declared.place.Place.TheVariants.{Top, Authority, Child, Site}
use Rattle.ddt_config.specs.Table.{text_at, texts_at, tables_at, name_in, role_in, path_in, locators_in, child_in, site_in, authority_in, Outline, outline_in, config_in}

-- the items that are listed, none where the list can't be read
abbrev pub those_of : {A : Type 0} → Result (List A) ConfigFault → List A
those_of (Ok items) = items
those_of (Err fault) = []

-- the table that a value is, if it can't be read
abbrev pub unread : (Members → Bool) → Data → Option Members
unread is_read d = option_and_then (λ ms. if is_read ms then None else Some ms) (as_table d)

-- The first table of a list that can't be read, with its number in the list, counted from n.
abbrev pub first_unread : (Members → Bool) → ℕ → List Data → Option (ℕ × Members)
first_unread is_read n [] = None
first_unread is_read n (d ∷ ds) =
    option_or (option_map (λ ms. (n, ms)) (unread is_read d)) (first_unread is_read (n + 1) ds)

-- the first child that can't be read, and the first site
abbrev pub unread_child : Members → Option (ℕ × Members)
unread_child ms = first_unread (λ child. is_ok (child_in child)) 1 (those_of (tables_at key.Child ms))

abbrev pub unread_site : Members → Option (ℕ × Members)
unread_site ms = first_unread (λ site. is_ok (site_in site)) 1 (those_of (tables_at key.Site ms))

-- the table below an authority that can't be read, where its number is i
abbrev pub unread_below : Role → ℕ → Members → Option (Place × Members)
unread_below Node i ms = option_map (λ found. (Child i found.0, found.1)) (unread_child ms)
unread_below Ms i ms = option_map (λ found. (Site i found.0, found.1)) (unread_site ms)

-- The table with the fault, in authority i, which can't be read: its own if its prefix is at fault, since that is
-- examined first, else one of a child or site if one can't be read.
abbrev pub faulty_in_authority : Role → ℕ → Members → Place × Members
faulty_in_authority role i ms =
    if is_ok (path_in ms) then option_map_or (λ found. found) (unread_below role i ms) (Authority i, ms)
    else (Authority i, ms)

-- what the top table says by itself, before its authorities are examined
abbrev pub top_role : Members → Result Role ConfigFault
top_role ms = name_in ms >>= λ name. role_in ms >>= λ role. locators_in key.Locators ms >>= λ locators. Ok role

-- the first authority that can't be read
abbrev pub unread_authority : Role → Members → Option (ℕ × Members)
unread_authority role ms = first_unread (λ a. is_ok (authority_in role a)) 1 (those_of (tables_at key.Authority ms))

-- the same of a top table that says the role
abbrev pub faulty_below_top : Result Role ConfigFault → Members → Place × Members
faulty_below_top (Err fault) ms = (Top, ms)
faulty_below_top (Ok role) ms =
    option_map_or (λ found. faulty_in_authority role found.0 found.1) (unread_authority role ms) (Top, ms)

-- The place of the table with the fault, and that table, in a configuration of which some table can't be read.
abbrev pub faulty_in : Members → Place × Members
faulty_in ms = faulty_below_top (top_role ms) ms

-- The same of every configuration: where each table can be read, the fault is one of the whole.
abbrev pub faulty_table : Members → Place × Members
faulty_table ms = if is_ok (outline_in ms) then (Top, ms) else faulty_in ms

-- the first text that is no address
abbrev pub no_locator : List Data → Option (List ℕ)
no_locator ds = find (λ text. not (is_ok (locator_in text))) (filter_map as_str ds)

-- for a key whose fault is Value, the text there that isn't of the key's form: the first one of several
abbrev pub wrong_at : Key → Members → Option (List ℕ)
wrong_at key.Locators ms = no_locator (those_of (texts_at key.Locators ms))
wrong_at key.Etrs ms = no_locator (those_of (texts_at key.Etrs ms))
wrong_at k ms = value_of (text_at k ms) where
  value_of : Result (List ℕ) ConfigFault → Option (List ℕ)
  value_of (Ok text) = Some text
  value_of (Err fault) = None

-- the text of a fault in a table: the one that isn't of its key's form, else none
abbrev pub wrong_text : ConfigFault → Members → Option (List ℕ)
wrong_text (Value k) ms = wrong_at k ms
wrong_text other ms = None

-- the fault is in the table of this place, and has the text there that isn't of its key's form
pub record IsAt (fault : PlacedFault) (table : Place × Members) : Type 0 where
  pub place : fault.place ≡ table.0
  pub text : option_map string_bytes fault.text ≡ wrong_text fault.fault table.1

-- where memory was refused, no table is named, and no text
abbrev pub IsWholeIfMemory : PlacedFault → Type 0
IsWholeIfMemory fault = fault.fault ≡ Memory → fault ≡ record { fault = Memory; place = Top; text = None }

-- the fault is the first one of a configuration, at its place and with its text
pub record IsFirstFault (ms : Members) (fault : PlacedFault) : Type 0 where
  pub first : config_in ms ≡ Err fault.fault
  pub at : IsAt fault (faulty_table ms)

-- the tables were read, or the first fault is at its place, or memory was refused
abbrev pub ReadsOrPlaces : Members → Result Outline PlacedFault → Type 0
ReadsOrPlaces ms (Ok o) = outline_in ms ≡ Ok o
ReadsOrPlaces ms (Err fault) =
    fault.fault ≢ Memory → (outline_in ms ≡ Err fault.fault) × IsAt fault (faulty_in ms)
