-- The records of a register: first the names of the columns, and then for each row its four fields.
use Rattle.std.specs.Prelude.{ℕ, List, [], ◌∷◌, ◌++◌, ◌≡◌, true, map, codes}
use Rattle.std.specs.List.{flat_map}
use Rattle.ddt_path.specs.declared.locator.Locator.{Locator}
use Rattle.ddt_path.specs.declared.record.Role.{Role}
use Rattle.ddt_path.specs.declared.record.Role.TheVariants.{Node, Ms}
use Rattle.ddt_text.specs.Written.{written_locator, written_prefix}
use Rattle.ddt_register.specs.declared.zone.Zone.{Zone}
use Rattle.ddt_register.specs.declared.site.Site.{Site}
use Rattle.ddt_register.specs.declared.group.Group.{Group}
use Rattle.ddt_register.specs.declared.register.Register.{Register}
use Rattle.ddt_register.specs.declared.csv_row.Row.{Row}
use Rattle.ddt_register.specs.declared.csv_row.Row.TheVariants as Of
use Rattle.ddt_register.specs.Rows.{rise}
use Rattle.ddt_register.specs.Spelled.{Lists, no_items, items_of, joined, lists_of}

-- the kind of a zone's row
abbrev pub zone_kind : Role → List ℕ
zone_kind Node = codes "node"
zone_kind Ms = codes "ms"

-- the kind of a group's row
abbrev pub group_kind : Role → List ℕ
group_kind Node = codes "group-node"
group_kind Ms = codes "group-ms"

-- locators, each behind a space
abbrev pub more_locators : List Locator → List ℕ
more_locators ls = flat_map (λ l. 32 ∷ written_locator l) ls

-- locators with one space between two of them
abbrev pub spaced : List Locator → List ℕ
spaced [] = []
spaced (l ∷ ls) = written_locator l ++ more_locators ls

-- a zone's prefix, and the group that serves it
abbrev pub zone_fields : Zone → List (List ℕ)
zone_fields z = zone_kind z.kind ∷ written_prefix z.prefix ∷ z.group ∷ [] ∷ []

-- a site's prefix, and its ETRs
abbrev pub site_fields : Site → List (List ℕ)
site_fields s = codes "site" ∷ written_prefix s.prefix ∷ [] ∷ spaced s.etrs ∷ []

-- a group's name, and its locators
abbrev pub group_fields : Group → List (List ℕ)
group_fields g = group_kind g.kind ∷ [] ∷ g.name ∷ spaced g.locators ∷ []

-- the fields of a row, by its kind
abbrev pub row_fields : Row → List (List ℕ)
row_fields (Of.Zone z) = zone_fields z
row_fields (Of.Site s) = site_fields s
row_fields (Of.Group g) = group_fields g

-- the number of a row
abbrev pub row_number : Row → ℕ
row_number (Of.Zone z) = z.row
row_number (Of.Site s) = s.row
row_number (Of.Group g) = g.row

-- the items of some rows
abbrev pub items_of_rows : List Row → Lists
items_of_rows [] = no_items
items_of_rows (row ∷ rows) = joined (items_of row) (items_of_rows rows)

-- these are the rows of a register, in their order
pub record AreItsRows (r : Register) (rows : List Row) : Type 0 where
  pub rising : rise 0 (map row_number rows) ≡ true
  pub items : items_of_rows rows ≡ lists_of r

-- the record that names the columns
abbrev pub columns : List (List ℕ)
columns = codes "kind" ∷ codes "prefix" ∷ codes "group" ∷ codes "addresses" ∷ []

-- the names of the columns, and the records of some rows
abbrev pub records_of : List Row → List (List (List ℕ))
records_of rows = columns ∷ map row_fields rows
