-- What CSV records spell: the items of a register, or the first fault. The first record names the four columns. Each
-- record after it is a row, from 1 on, of one of five kinds. No record at all spells a register without items. Records
-- are those of RFC 4180, section 2, as csv reads them; columns and kinds are this project's own.
--
--   kind                    prefix      group            addresses
--   group-node, group-ms    empty       its name         its locators
--   node, ms                the zone    serving group    empty
--   site                    the site    empty            its ETRs
use Rattle.std.specs.Prelude.{ℕ, ◌+◌, Bool, false, ◌==◌, ◌&&◌, nat_lt, if◌then◌else◌, List, [], ◌∷◌, ◌++◌, length, Option, Some, None, Result, Ok, Err, codes, ⊤, ◌≡◌}
use Rattle.std.specs.List.{slice_split}
use Rattle.std.specs.Str.{bytes_eq}
use Rattle.ddt_path.specs.declared.locator.Locator.{Locator}
use Rattle.ddt_path.specs.declared.record.Role.{Role}
use Rattle.ddt_path.specs.declared.record.Role.TheVariants.{Node, Ms}
use Rattle.ddt_path.specs.Names.{is_name}
use Rattle.ddt_text.specs.FirstFault.{prefix_in, locator_in}
use Rattle.ddt_path.specs.Steps.{◌>>=◌}
use Rattle.ddt_register.specs.declared.zone.Zone.{Zone}
use Rattle.ddt_register.specs.declared.site.Site.{Site}
use Rattle.ddt_register.specs.declared.group.Group.{Group}
use Rattle.ddt_register.specs.Rows.{most_rows}
use Rattle.ddt_register.specs.declared.register.Register.{Register}
use Rattle.ddt_register.specs.declared.csv_row.Kind.{Kind}
use Rattle.ddt_register.specs.declared.csv_row.Row.{Row}
use Rattle.ddt_register.specs.declared.csv_row.Row.TheVariants as Of
use Rattle.ddt_register.specs.declared.fault.ReadFault.{ReadFault}
use Rattle.ddt_register.specs.declared.fault.ReadFault.TheVariants as Fault

-- the row that a fault names
abbrev pub fault_row : ReadFault → Option ℕ
fault_row (Fault.Csv row) = Some row
fault_row Fault.Columns = None
fault_row (Fault.Kind row) = Some row
fault_row (Fault.Prefix row) = Some row
fault_row (Fault.Name row) = Some row
fault_row (Fault.Address row) = Some row
fault_row Fault.TooMany = None
fault_row Fault.Read = None
fault_row Fault.Memory = None

-- ---- the fields of a row

-- what a field is read as, with one fault for whatever is wrong with it
abbrev pub field_of : {A F : Type 0} → ReadFault → Result A F → Result A ReadFault
field_of fault (Ok a) = Ok a
field_of fault (Err why) = Err fault

-- nothing where the field is empty, and else this fault
abbrev pub empty_in : ReadFault → List ℕ → Result (Unit {0}) ReadFault
empty_in fault text = if length text == 0 then Ok tt else Err fault

-- the name that a text is, else this fault
abbrev pub name_in : ReadFault → List ℕ → Result (List ℕ) ReadFault
name_in fault text = if is_name text then Ok text else Err fault

-- the locator that each part spells
abbrev pub each_locator : ReadFault → List (List ℕ) → Result (List Locator) ReadFault
each_locator fault [] = Ok []
each_locator fault (part ∷ parts) = do
  locator ← field_of fault (locator_in part)
  locators ← each_locator fault parts
  Ok (locator ∷ locators)

-- no locator, or some with one space, the byte 32, between them
abbrev pub locators_in : ReadFault → List ℕ → Result (List Locator) ReadFault
locators_in fault text = if length text == 0 then Ok [] else each_locator fault (slice_split (λ b. b == 32) text)

-- ---- a row of each kind: prefix, group and addresses are examined in this order

-- A server group, `group-node` or `group-ms`: no prefix, its name, and the locators of its servers.
abbrev pub group_in : Role → ℕ → List ℕ → List ℕ → List ℕ → Result Row ReadFault
group_in role row prefix group addresses = do
  _ ← empty_in (Fault.Prefix row) prefix
  name ← name_in (Fault.Name row) group
  locators ← locators_in (Fault.Address row) addresses
  Ok (Of.Group (record { name = name; kind = role; locators = locators; row = row }))

-- A zone, `node` or `ms`: its prefix, the name of the group that serves it, and no addresses.
abbrev pub zone_in : Role → ℕ → List ℕ → List ℕ → List ℕ → Result Row ReadFault
zone_in role row prefix group addresses = do
  path ← field_of (Fault.Prefix row) (prefix_in prefix)
  name ← name_in (Fault.Name row) group
  _ ← empty_in (Fault.Address row) addresses
  Ok (Of.Zone (record { prefix = path; kind = role; group = name; row = row }))

-- A site: its prefix, no group, and its ETRs' locators. A site without an ETR isn't registered.
abbrev pub site_in : ℕ → List ℕ → List ℕ → List ℕ → Result Row ReadFault
site_in row prefix group addresses = do
  path ← field_of (Fault.Prefix row) (prefix_in prefix)
  _ ← empty_in (Fault.Name row) group
  etrs ← locators_in (Fault.Address row) addresses
  Ok (Of.Site (record { prefix = path; etrs = etrs; row = row }))

-- A row of the kind that its first field names: a server group, a zone or a site.
abbrev pub item_in : Kind → ℕ → List ℕ → List ℕ → List ℕ → Result Row ReadFault
item_in (Kind.Group role) row prefix group addresses = group_in role row prefix group addresses
item_in (Kind.Zone role) row prefix group addresses = zone_in role row prefix group addresses
item_in Kind.Site row prefix group addresses = site_in row prefix group addresses

-- the kind that a text names, else this fault
abbrev pub kind_in : ReadFault → List ℕ → Result Kind ReadFault
kind_in fault text =
    if bytes_eq text (codes "group-node") then Ok (Kind.Group Node)
    else if bytes_eq text (codes "group-ms") then Ok (Kind.Group Ms)
    else if bytes_eq text (codes "node") then Ok (Kind.Zone Node)
    else if bytes_eq text (codes "ms") then Ok (Kind.Zone Ms)
    else if bytes_eq text (codes "site") then Ok Kind.Site
    else Err fault

-- a row, whose kind is examined first
abbrev pub fields_in : ℕ → List ℕ → List ℕ → List ℕ → List ℕ → Result Row ReadFault
fields_in row text prefix group addresses = do
  kind ← kind_in (Fault.Kind row) text
  item_in kind row prefix group addresses

-- nothing where a row is not past the last that there may be, else TooMany
abbrev pub unless_too_many : Bool → Result (Unit {0}) ReadFault
unless_too_many past = if past then Err Fault.TooMany else Ok tt

-- a row has as many fields as there are columns, and there are at most 65,535 rows
abbrev pub row_in : ℕ → List (List ℕ) → Result Row ReadFault
row_in row (kind ∷ prefix ∷ group ∷ addresses ∷ []) = do
  _ ← unless_too_many (nat_lt most_rows row)
  fields_in row kind prefix group addresses
row_in row fields = Err (Fault.Csv row)

-- ---- the register

-- the lists of a register
pub record Lists : Type 0 where
  pub zones : List Zone
  pub sites : List Site
  pub groups : List Group

-- The lists of an empty file, and of one that holds only the names of the columns.
abbrev pub no_items : Lists
no_items = record { zones = []; sites = []; groups = [] }

-- the lists of one row alone
abbrev pub items_of : Row → Lists
items_of (Of.Zone zone) = record { zones = zone ∷ []; sites = []; groups = [] }
items_of (Of.Site site) = record { zones = []; sites = site ∷ []; groups = [] }
items_of (Of.Group group) = record { zones = []; sites = []; groups = group ∷ [] }

-- the items of some rows, and then those of others
abbrev pub joined : Lists → Lists → Lists
joined a b = record { zones = a.zones ++ b.zones; sites = a.sites ++ b.sites; groups = a.groups ++ b.groups }

-- the items of the rows from this row on
abbrev pub rows_in : ℕ → List (List (List ℕ)) → Result Lists ReadFault
rows_in row [] = Ok no_items
rows_in row (fields ∷ records) = do
  item ← row_in row fields
  items ← rows_in (row + 1) records
  Ok (joined (items_of item) items)

-- The first record has just the fields `kind`, `prefix`, `group` and `addresses`, in this order and in lower case.
abbrev pub are_columns : List (List ℕ) → Bool
are_columns (kind ∷ prefix ∷ group ∷ addresses ∷ []) =
    bytes_eq kind (codes "kind") && (bytes_eq prefix (codes "prefix")
    && (bytes_eq group (codes "group") && bytes_eq addresses (codes "addresses")))
are_columns fields = false

-- nothing where the first record names the columns, else Columns
abbrev pub columns_in : List (List ℕ) → Result (Unit {0}) ReadFault
columns_in fields = if are_columns fields then Ok tt else Err Fault.Columns

-- the items that the records of a text spell, or their first fault
abbrev pub spelled : List (List (List ℕ)) → Result Lists ReadFault
spelled [] = Ok no_items
spelled (columns ∷ rows) = do
  _ ← columns_in columns
  rows_in 1 rows

-- ---- an answer against what is spelled

-- The zones, sites and groups of a register, for comparison with what a file spells.
abbrev pub lists_of : Register → Lists
lists_of register = record { zones = register.zones; sites = register.sites; groups = register.groups }

-- An answer is what is meant, or says that memory ran out.
abbrev pub UnlessMemory : {A : Type 0} → Result A ReadFault → Result A ReadFault → Type 0
UnlessMemory (Ok a) meant = meant ≡ Ok a
UnlessMemory (Err Fault.Memory) meant = ⊤
UnlessMemory (Err fault) meant = meant ≡ Err fault

-- A failed reader and running out of memory say nothing of the records.
abbrev pub Gives : Result Register ReadFault → Result Lists ReadFault → Type 0
Gives (Ok register) meant = meant ≡ Ok (lists_of register)
Gives (Err Fault.Read) meant = ⊤
Gives (Err Fault.Memory) meant = ⊤
Gives (Err fault) meant = meant ≡ Err fault
