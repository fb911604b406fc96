-- Which TOML table stands for which settings. The table's form is this project's own. The keys are examined in the
-- order `roots`, `listen`, `allow`, the values of each from first to last, and the first fault decides.
use Rattle.std.specs.Prelude.{◌==◌, nat_le, ℕ, Bool, if◌then◌else◌, codes, List, [], ◌∷◌, length, Option, None, Some, Result, Ok, Err}
use Rattle.std.specs.List.{list_any}
use Rattle.std.specs.Option.{option_map}
use Rattle.toml.specs.Data.{Data, Items, no_items, item, Members, get_member, as_str, as_array}
use Rattle.toml.specs.Parse.{parse_document}
use Rattle.ddt_path.specs.declared.locator.Locator.{Locator}
use Rattle.ddt_path.specs.declared.locator.Locator.TheVariants.{V4, V6}
use Rattle.ddt_path.specs.Locators.{are_distinct, most_locators}
use Rattle.ddt_path.specs.Steps.{◌>>=◌}
use Rattle.ddt_text.specs.declared.fault.TextFault.{TextFault}
use Rattle.ddt_text.specs.FirstFault.{locator_in}
use Rattle.ddt_config.specs.declared.settings.fault.Key.{Key}
use Rattle.ddt_config.specs.declared.settings.fault.Key.TheVariants as key
use Rattle.ddt_config.specs.declared.settings.fault.SettingsFault.{SettingsFault}
use Rattle.ddt_config.specs.declared.settings.fault.SettingsFault.TheVariants.{Toml, Field, Value, Count, Wildcard, Twice}
use Rattle.ddt_config.specs.declared.settings.server_settings.ServerSettings.{ServerSettings}
use Rattle.ddt_config.specs.declared.settings.resolver_settings.Settings.{Settings}
use Rattle.ddt_config.specs.Settings.Rlocs.{block_in}

-- the words of the text
abbrev pub key_text : Key → List ℕ
key_text key.Roots = codes "roots"
key_text key.Listen = codes "listen"
key_text key.Allow = codes "allow"

-- a list examined from first to last
abbrev pub each : {A B : Type 0} → (A → Result B SettingsFault) → List A → Result (List B) SettingsFault
each examine [] = Ok []
each examine (a ∷ rest) = examine a >>= λ b. each examine rest >>= λ bs. Ok (b ∷ bs)

-- a value of the kind that the key asks for
abbrev pub of_kind : {A : Type 0} → Key → Option A → Result A SettingsFault
of_kind k None = Err (Field k)
of_kind k (Some a) = Ok a

-- a text of the form that the key asks for
abbrev pub of_form : {A : Type 0} → Key → List ℕ → Result A TextFault → Result A SettingsFault
of_form k text (Err fault) = Err (Value k text)
of_form k text (Ok a) = Ok a

-- the values of an array
abbrev pub listed : Items → List Data
listed no_items = []
listed (item d ds) = d ∷ listed ds

-- the text that a value is; any other kind of value is the fault Field of the key
abbrev pub text_of : Key → Data → Result (List ℕ) SettingsFault
text_of k d = of_kind k (as_str d)

-- the values of the array that a value is, in their order; any other kind of value is the fault Field of the key
abbrev pub array_of : Key → Data → Result (List Data) SettingsFault
array_of k d = of_kind k (option_map listed (as_array d))

-- the locator, or the prefix of RLOCs, that a value is
abbrev pub locator_of : Key → Data → Result Locator SettingsFault
locator_of k d = text_of k d >>= λ text. of_form k text (locator_in text)

-- the digits of the prefix of RLOCs that a value is, as "192.0.2.0/24"; a text of another form is the fault Value
abbrev pub rlocs_of : Key → Data → Result (List ℕ) SettingsFault
rlocs_of k d = text_of k d >>= λ text. of_form k text (block_in text)

-- the locators at a key that must be there
abbrev pub locators_in : Key → Members → Result (List Locator) SettingsFault
locators_in k ms = of_kind k (get_member (key_text k) ms) >>= array_of k >>= each (locator_of k)

-- the prefixes at a key, none where it is missing
abbrev pub prefixes_at : Key → Option Data → Result (List (List ℕ)) SettingsFault
prefixes_at k None = Ok []
prefixes_at k (Some d) = array_of k d >>= each (rlocs_of k)

-- the prefixes of RLOCs at a key of the table; a table without the key `allow` allows no ITR
abbrev pub prefixes_in : Key → Members → Result (List (List ℕ)) SettingsFault
prefixes_in k ms = prefixes_at k (get_member (key_text k) ms)

-- the root's servers are 1 to 8
abbrev pub checked_roots : List Locator → Result (List Locator) SettingsFault
checked_roots [] = Err (Count key.Roots)
checked_roots (l ∷ ls) = if nat_le (length (l ∷ ls)) most_locators then Ok (l ∷ ls) else Err (Count key.Roots)

-- the address of no machine
abbrev pub is_wildcard : Locator → Bool
is_wildcard (V4 number) = number == 0
is_wildcard (V6 number) = number == 0

-- it listens at one locator or more, none of them a wildcard, and at each once
abbrev pub checked_listen : List Locator → Result (Unit {0}) SettingsFault
checked_listen ls = if length ls == 0 then Err (Count key.Listen) else if list_any is_wildcard ls then Err Wildcard
    else if are_distinct ls then Ok tt else Err Twice

-- the settings that a table stands for, or the first fault
abbrev pub settings_in : Members → Result Settings SettingsFault
settings_in ms = do
  roots ← locators_in key.Roots ms >>= checked_roots
  listen ← locators_in key.Listen ms
  good ← checked_listen listen
  allow ← prefixes_in key.Allow ms
  Ok (record { roots = roots; listen = listen; allow = allow })

-- the same of a text, as TOML reads it
abbrev pub settings_in_document : Option Members → Result Settings SettingsFault
settings_in_document None = Err Toml
settings_in_document (Some ms) = settings_in ms

-- the settings that a text stands for, or its first fault: Toml where the text is no TOML
abbrev pub settings_in_text : List ℕ → Result Settings SettingsFault
settings_in_text text = settings_in_document (parse_document text)

-- the settings of a server that a table stands for, or the first fault: which ITRs may ask it
abbrev pub server_settings_in : Members → Result ServerSettings SettingsFault
server_settings_in ms = prefixes_in key.Allow ms >>= λ allow. Ok (record { allow = allow })
