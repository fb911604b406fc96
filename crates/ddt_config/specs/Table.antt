-- Which TOML table stands for which configuration of a node or a Map-Server (RFC 8111, section 4). The table's form is
-- this project's own. The keys are examined in a fixed order, tables from first to last,
-- and the first fault decides; the shape is examined last.
use Rattle.std.specs.Prelude.{◌≡◌, ℕ, Bool, true, false, if◌then◌else◌, codes, List, [], ◌∷◌, Option, None, Some, is_some, Result, Ok, Err}
use Rattle.std.specs.List.{list_all}
use Rattle.std.specs.Option.{option_map}
use Rattle.std.specs.Str.{bytes_eq}
use Rattle.toml.specs.Data.{Data, Items, no_items, item, Members, get_member, as_str, as_array, as_table}
use Rattle.toml.specs.Parse.{parse_document}
use Rattle.ddt_path.specs.declared.locator.Locator.{Locator}
use Rattle.ddt_path.specs.declared.record.Role.{Role}
use Rattle.ddt_path.specs.declared.record.Role.TheVariants.{Node, Ms}
use Rattle.ddt_path.specs.Names.{is_name}
use Rattle.ddt_text.specs.declared.fault.TextFault.{TextFault}
use Rattle.ddt_text.specs.FirstFault.{locator_in, prefix_in}
use Rattle.ddt_path.specs.Steps.{◌>>=◌}
use Rattle.ddt_config.specs.declared.fault.Key.{Key}
use Rattle.ddt_config.specs.declared.fault.Key.TheVariants as key
use Rattle.ddt_config.specs.declared.fault.ConfigFault.{ConfigFault}
use Rattle.ddt_config.specs.declared.fault.ConfigFault.TheVariants.{Toml, Field, Value, Shape, Memory}
use Rattle.ddt_config.specs.declared.child.Child.{Child}
use Rattle.ddt_config.specs.declared.site_entry.SiteEntry.{SiteEntry}
use Rattle.ddt_config.specs.declared.authority.Content.{Content}
use Rattle.ddt_config.specs.declared.authority.Content.TheVariants.{Children, Sites}
use Rattle.ddt_config.specs.declared.authority.Authority.{Authority}
use Rattle.ddt_config.specs.declared.config.ServerConfig.{ServerConfig}
use Rattle.ddt_config.specs.Shaped.{is_shaped}

-- the words of the text
abbrev pub key_text : Key → List ℕ
key_text key.Name = codes "name"
key_text key.Kind = codes "kind"
key_text key.Locators = codes "locators"
key_text key.Authority = codes "authority"
key_text key.Prefix = codes "prefix"
key_text key.Child = codes "child"
key_text key.Site = codes "site"
key_text key.Etrs = codes "etrs"

-- The word at the key `kind`: `node` for DDT nodes, `ms` for Map-Servers.
abbrev pub role_text : Role → List ℕ
role_text Node = codes "node"
role_text Ms = codes "ms"

-- a list examined from first to last
abbrev pub each : {A B : Type 0} → (A → Result B ConfigFault) → List A → Result (List B) ConfigFault
each examine [] = Ok []
each examine (a ∷ rest) = examine a >>= λ b. each examine rest >>= λ bs. Ok (b ∷ bs)

-- a value of the kind that the key asks for
abbrev pub of_kind : {A : Type 0} → Key → Option A → Result A ConfigFault
of_kind k None = Err (Field k)
of_kind k (Some a) = Ok a

-- a value of the form that the key asks for
abbrev pub of_form : {A : Type 0} → Key → Result A TextFault → Result A ConfigFault
of_form k (Err fault) = Err (Value k)
of_form k (Ok a) = Ok a

-- the values of an array
abbrev pub listed : Items → List Data
listed no_items = []
listed (item d ds) = d ∷ listed ds

-- The text that a value is; a value of another kind is the fault Field of the key.
abbrev pub text_of : Key → Data → Result (List ℕ) ConfigFault
text_of k d = of_kind k (as_str d)

-- The values of an array; a value of another kind is the fault Field of the key.
abbrev pub array_of : Key → Data → Result (List Data) ConfigFault
array_of k d = of_kind k (option_map listed (as_array d))

-- The members of a table; a value of another kind is the fault Field of the key.
abbrev pub table_of : Key → Data → Result Members ConfigFault
table_of k d = of_kind k (as_table d)

-- the text at a key
abbrev pub text_at : Key → Members → Result (List ℕ) ConfigFault
text_at k ms = of_kind k (get_member (key_text k) ms) >>= text_of k

-- The array at a key; Field where the key is missing or holds something else.
abbrev pub array_at : Key → Members → Result (List Data) ConfigFault
array_at k ms = of_kind k (get_member (key_text k) ms) >>= array_of k

-- whether a value is a text; asked of each one under `locators` and `etrs`
abbrev pub is_text_value : Data → Bool
is_text_value d = is_some (as_str d)

-- Whether a value is a table; asked of each one under `authority`, `child` and `site`.
abbrev pub is_table_value : Data → Bool
is_table_value d = is_some (as_table d)

-- values that are all of the kind that the key asks for
abbrev pub all_of : Key → (Data → Bool) → List Data → Result (List Data) ConfigFault
all_of k is_kind ds = if list_all is_kind ds then Ok ds else Err (Field k)

-- the texts at a key: each value is a text before one is examined
abbrev pub texts_at : Key → Members → Result (List Data) ConfigFault
texts_at k ms = array_at k ms >>= all_of k is_text_value

-- the values of an array that may be missing: then there are none; a value of another kind is the fault Field
abbrev pub array_or_none : Key → Option Data → Result (List Data) ConfigFault
array_or_none k None = Ok []
array_or_none k (Some d) = array_of k d

-- The tables at a key, none where it is missing; each value is a table, else the fault Field, before one is examined.
abbrev pub tables_at : Key → Members → Result (List Data) ConfigFault
tables_at k ms = array_or_none k (get_member (key_text k) ms) >>= all_of k is_table_value

-- what is examined in the table that a value is; a value of another kind is the fault Field of the key
abbrev pub item_of : {A : Type 0} → Key → (Members → Result A ConfigFault) → Data → Result A ConfigFault
item_of k examine d = table_of k d >>= examine

-- The authorities, children or sites at a key, examined from first to last; where the key is missing there are none.
abbrev pub items_in : {A : Type 0} → Key → (Members → Result A ConfigFault) → Members → Result (List A) ConfigFault
items_in k examine ms = tables_at k ms >>= each (item_of k examine)

-- the name of the group
abbrev pub name_in : Members → Result (List ℕ) ConfigFault
name_in ms = text_at key.Name ms >>= λ text. if is_name text then Ok text else Err (Value key.Name)

-- `node` or `ms`
abbrev pub role_of : List ℕ → Result Role ConfigFault
role_of text = if bytes_eq text (role_text Node) then Ok Node else if bytes_eq text (role_text Ms) then Ok Ms
    else Err (Value key.Kind)

-- The role of a group or of a child, at `kind`: Field where no text stands there, Value where it is another word.
abbrev pub role_in : Members → Result Role ConfigFault
role_in ms = text_at key.Kind ms >>= role_of

-- The locator that a value spells: Field where it is no text, Value where the text is no address.
abbrev pub locator_of : Key → Data → Result Locator ConfigFault
locator_of k d = text_of k d >>= λ text. of_form k (locator_in text)

-- The locators at `locators`, or of ETRs at `etrs`. The key must be there, and all values texts, before one is read.
abbrev pub locators_in : Key → Members → Result (List Locator) ConfigFault
locators_in k ms = texts_at k ms >>= each (locator_of k)

-- The prefix at `prefix`: Field where no text stands there, Value where the text is no prefix.
abbrev pub path_in : Members → Result (List ℕ) ConfigFault
path_in ms = text_at key.Prefix ms >>= λ text. of_form key.Prefix (prefix_in text)

-- A child: its keys are examined in the order `prefix`, `kind`, `locators`.
abbrev pub child_in : Members → Result Child ConfigFault
child_in ms = do
  prefix ← path_in ms
  role ← role_in ms
  locators ← locators_in key.Locators ms
  Ok (record { prefix = prefix; role = role; locators = locators })

-- A site: `prefix` is examined before `etrs`.
abbrev pub site_in : Members → Result SiteEntry ConfigFault
site_in ms = do
  prefix ← path_in ms
  etrs ← locators_in key.Etrs ms
  Ok (record { prefix = prefix; etrs = etrs })

-- the tables under `child` of a DDT node, under `site` of a Map-Server; the other key is ignored
abbrev pub content_in : Role → Members → Result Content ConfigFault
content_in Node ms = items_in key.Child child_in ms >>= λ children. Ok (Children children)
content_in Ms ms = items_in key.Site site_in ms >>= λ sites. Ok (Sites sites)

-- An authority: `prefix` is examined before its children or sites.
abbrev pub authority_in : Role → Members → Result Authority ConfigFault
authority_in role ms = do
  prefix ← path_in ms
  content ← content_in role ms
  Ok (record { prefix = prefix; content = content })

-- what a configuration holds
pub record Outline : Type 0 where
  pub name : List ℕ
  pub role : Role
  pub locators : List Locator
  pub authorities : List Authority

-- The contents of a configuration in memory, for comparison with what a text stands for.
abbrev pub outline : ServerConfig → Outline
outline c = record { name = c.name; role = c.role; locators = c.locators; authorities = c.authorities }

-- what the keys hold, whatever its shape
abbrev pub outline_in : Members → Result Outline ConfigFault
outline_in ms = do
  name ← name_in ms
  role ← role_in ms
  locators ← locators_in key.Locators ms
  authorities ← items_in key.Authority (authority_in role) ms
  Ok (record { name = name; role = role; locators = locators; authorities = authorities })

-- A configuration that servers can have, else the fault Shape.
abbrev pub with_shape : Outline → Result Outline ConfigFault
with_shape o = if is_shaped o.role o.locators o.authorities then Ok o else Err Shape

-- what the answer of the test comes to, or that memory ran out before there was one
abbrev pub shape_verdict : {E : Type 0} → Result Bool E → Result (Unit {0}) ConfigFault
shape_verdict (Ok true) = Ok tt
shape_verdict (Ok false) = Err Shape
shape_verdict (Err memory) = Err Memory

-- the configuration that a table stands for, or the first fault
abbrev pub config_in : Members → Result Outline ConfigFault
config_in ms = outline_in ms >>= with_shape

-- the same of a text, as TOML reads it
abbrev pub config_in_document : Option Members → Result Outline ConfigFault
config_in_document None = Err Toml
config_in_document (Some ms) = config_in ms

-- The configuration that a text stands for, or its first fault: Toml where it isn't TOML.
abbrev pub config_in_text : List ℕ → Result Outline ConfigFault
config_in_text text = config_in_document (parse_document text)

-- the text stands for the configuration
abbrev pub StandsFor : List ℕ → ServerConfig → Type 0
StandsFor text c = config_in_text text ≡ Ok (outline c)
