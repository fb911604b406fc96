-- What is looked up to find the broken rules of one row, and its faults.
use Rattle.std.specs.Prelude.{◌≡◌, ℕ, Bool, List, find, Option, None, Some, if◌then◌else◌}
use Rattle.std.specs.declared.cmp.Ordering.{Ordering}
use Rattle.std.specs.List.{filter}
use Rattle.std.specs.Option.{option_map, option_copied}
use Rattle.std.specs.Ordering.{nat_cmp}
use Rattle.std.specs.Cmp.Lexicographic.{slice_cmp}
use Rattle.std.specs.BTreeMap as tree
use Rattle.std.specs.FinMap.{FinMap, get}
use Rattle.ddt_path.specs.declared.locator.Locator.{Locator}
use Rattle.ddt_path.specs.contracts.locator.LocatorOrd.TheImpl as locator_ord
use Rattle.ddt_path.specs.Covers.{is_same_path}
use Rattle.ddt_path.specs.Locators.{lists}
use Rattle.ddt_register.specs.declared.zone.Zone.{Zone}
use Rattle.ddt_register.specs.declared.group.Group.{Group}
use Rattle.ddt_register.specs.declared.register.Register.{Register}
use Rattle.ddt_register.specs.Rows.{first_row}
use Rattle.ddt_check.specs.declared.fault.Rule.{Rule}
use Rattle.ddt_check.specs.Zones.{is_ms, group_named}
use Rattle.ddt_check.specs.Rules.{is_root, broken}
use Rattle.ddt_trie.specs.PrefixMap.{path_cmp}
use Rattle.ddt_trie.specs.Trie.{trie_content}
use Rattle.ddt_review.specs.declared.faults.broken.Broken.{Broken}
use Rattle.ddt_review.specs.declared.faults.items_in_row.ItemsInRow.{ItemsInRow}
use Rattle.ddt_review.specs.declared.faults.first_items.RowAndKind.{RowAndKind}
use Rattle.ddt_review.specs.declared.faults.index.Index.{Index}
use Rattle.ddt_review.specs.Faults.Broken.{zone_in, site_in, group_in, first_site, other_row}

-- what is in a row of the register
pub record IsInRow (r : Register) (row : ℕ) (items : ItemsInRow) : Type 0 where
  pub zone : option_copied items.zone ≡ zone_in r row
  pub site : option_copied items.site ≡ site_in r row
  pub group : option_copied items.group ≡ group_in r row

-- what is kept of a zone
abbrev pub row_of_zone : Zone → RowAndKind
row_of_zone z = record { row = z.row; kind = z.kind }

-- what is kept of a group
abbrev pub row_of_group : Group → RowAndKind
row_of_group g = record { row = g.row; kind = g.kind }

-- the map has the first zone of each prefix
abbrev pub HasFirstOf : FinMap path_cmp RowAndKind → List Zone → Type 0
HasFirstOf first zones =
    (p : List ℕ) → get first p ≡ option_map row_of_zone (find (λ z. is_same_path z.prefix p) zones)

-- the order of locators
abbrev pub locator_cmp : Locator → Locator → Ordering
locator_cmp = locator_ord.ghosts.cmp

-- the first items of a register by their keys
pub record IsIndexOf (r : Register) (index : Index) : Type 0 where
  pub root : index.root ≡ first_row (λ z. z.row) is_root r.zones
  pub zones : HasFirstOf (trie_content index.zones) r.zones
  pub map_servers : HasFirstOf (trie_content index.map_servers) (filter (λ z. is_ms z.kind) r.zones)
  pub sites : (p : List ℕ) → tree.get (slice_cmp nat_cmp) index.sites p ≡ first_site r p
  pub groups : (name : List ℕ) → tree.get (slice_cmp nat_cmp) index.groups name
      ≡ option_map row_of_group (group_named r name)
  pub locators : (l : Locator) → tree.get locator_cmp index.locators l
      ≡ first_row (λ g. g.row) (λ g. lists g.locators l) r.groups

-- the fault of a row, where there is one
abbrev pub fault_if : Bool → ℕ → Rule → Option ℕ → Option Broken
fault_if breaks row rule other = if breaks then Some (record { row = row; rule = rule; other = other }) else None

-- the fault of a rule at a row
abbrev pub told : Register → ℕ → Rule → Option Broken
told r row rule = fault_if (broken r rule row) row rule (other_row r rule row)
