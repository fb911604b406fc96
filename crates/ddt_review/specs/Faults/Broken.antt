-- All broken rules of a register, each with the row that breaks it and the other row of the fault, where there is one.
use Rattle.std.specs.Prelude.{◌≡◌, ℕ, Bool, ◌==◌, ◌&&◌, nat_lt, List, find, Option, None, Contains}
use Rattle.std.specs.declared.cmp.Ordering.{Ordering}
use Rattle.std.specs.List.{list_any, filter}
use Rattle.std.specs.List.Sorted.{IsStrictlySortedBy}
use Rattle.std.specs.Option.{option_map, option_and_then}
use Rattle.std.specs.Ordering.{nat_cmp, ordering_then}
use Rattle.ddt_path.specs.Covers.{is_same_path, is_strictly_below}
use Rattle.ddt_path.specs.Matching.{longest_match}
use Rattle.ddt_register.specs.declared.zone.Zone.{Zone}
use Rattle.ddt_register.specs.declared.site.Site.{Site}
use Rattle.ddt_register.specs.declared.group.Group.{Group}
use Rattle.ddt_register.specs.declared.register.Register.{Register}
use Rattle.ddt_register.specs.Rows.{first_row}
use Rattle.ddt_check.specs.declared.fault.Rule.{Rule}
use Rattle.ddt_check.specs.declared.fault.Rule.TheVariants as rules
use Rattle.ddt_check.specs.Zones.{is_ms, zone_of, group_named}
use Rattle.ddt_check.specs.Rules.{is_root, share, broken, rule_number}
use Rattle.ddt_review.specs.declared.faults.broken.Broken.{Broken}

-- The zone that is in a row: the rules on zones are tested at it.
abbrev pub zone_in : Register → ℕ → Option Zone
zone_in r row = find (λ z. z.row == row) r.zones

-- The site that is in a row: the rules on sites are tested at it.
abbrev pub site_in : Register → ℕ → Option Site
site_in r row = find (λ s. s.row == row) r.sites

-- The group that is in a row: the rules on groups are tested at it.
abbrev pub group_in : Register → ℕ → Option Group
group_in r row = find (λ g. g.row == row) r.groups

-- the row of the first root before a row, if there is one
abbrev pub earlier_root : Register → ℕ → Option ℕ
earlier_root r row = first_row (λ z. z.row) (λ z. nat_lt z.row row && is_root z) r.zones

-- the least row of a zone of this prefix
abbrev pub first_zone : Register → List ℕ → Option ℕ
first_zone r p = first_row (λ z. z.row) (λ z. is_same_path z.prefix p) r.zones

-- the least row of a site of this prefix
abbrev pub first_site : Register → List ℕ → Option ℕ
first_site r p = first_row (λ s. s.row) (λ s. is_same_path s.prefix p) r.sites

-- the least row of a group of this name: the group that a zone means by it
abbrev pub group_row : Register → List ℕ → Option ℕ
group_row r name = option_map (λ g. g.row) (group_named r name)

-- the least row of a group before this one that has one of its locators
abbrev pub earlier_sharer : Register → Group → Option ℕ
earlier_sharer r g = first_row (λ h. h.row) (λ h. nat_lt h.row g.row && share h.locators g.locators) r.groups

-- the nearest zone of Map-Servers strictly above a prefix: that of the longest prefix, of equal ones the first
abbrev pub zone_above : Register → List ℕ → Option Zone
zone_above r p = longest_match (λ z. z.prefix) (filter (λ z. is_ms z.kind && is_strictly_below p z.prefix) r.zones) p

-- The other row of a fault, by its rule and its row: the first root, the first zone, site or group of the same prefix
-- or name, the zone's group, an earlier group of the same locator, the zone above, or the site's zone. A fault of any
-- other rule is of one row alone.
abbrev pub other_row : Register → Rule → ℕ → Option ℕ
other_row r rules.NoRoot row = earlier_root r row
other_row r rules.DuplicateZone row = option_and_then (λ z. first_zone r z.prefix) (zone_in r row)
other_row r rules.DuplicateSite row = option_and_then (λ s. first_site r s.prefix) (site_in r row)
other_row r rules.Role row = option_and_then (λ z. group_row r z.group) (zone_in r row)
other_row r rules.Locators row = option_and_then (λ g. earlier_sharer r g) (group_in r row)
other_row r rules.BelowMapServer row =
    option_and_then (λ z. option_map (λ y. y.row) (zone_above r z.prefix)) (zone_in r row)
other_row r rules.SiteOutside row = option_and_then (λ s. option_map (λ z. z.row) (zone_of r s.prefix)) (site_in r row)
other_row r rules.DuplicateGroup row = option_and_then (λ g. group_row r g.name) (group_in r row)
other_row r _ row = None

-- some entry of a list is of this rule and this row
abbrev pub is_told : List Broken → Rule → ℕ → Bool
is_told list rule row = list_any (λ b. b.row == row && rule_number b.rule == rule_number rule) list

-- the order of a list: by row, then by the number of the rule
abbrev pub place_cmp : Broken → Broken → Ordering
place_cmp a b = ordering_then (nat_cmp a.row b.row) (nat_cmp (rule_number a.rule) (rule_number b.rule))

-- A list of all broken rules: a rule is told of a row if and only if it is broken there, by row and then by rule, none
-- twice, each with its other row.
pub record AreBroken (r : Register) (list : List Broken) : Type 0 where
  pub exact : (rule : Rule) (row : ℕ) → is_told list rule row ≡ broken r rule row
  pub ordered : IsStrictlySortedBy place_cmp list
  pub others : (b : Broken) → Contains list b → b.other ≡ other_row r b.rule b.row
