-- The rules of a register, each as a test of its lists at one row. The delegation tree of RFC 8111, section 4,
-- wants one root, one owner of each prefix and Map-Servers as its leaves; the numbers are limits of ours.
use Rattle.std.specs.Prelude.{◌≡◌, ℕ, ◌<◌, Bool, true, false, ◌==◌, ◌&&◌, ◌||◌, not, nat_lt, if◌then◌else◌, List, [], ◌∷◌, length, is_some, Option, MatchOption}
use Rattle.std.specs.List.{list_any}
use Rattle.std.specs.Option.{option_map_or}
use Rattle.std.specs.Cmp.Lexicographic.{pointwise}
use Rattle.ddt_path.specs.declared.locator.Locator.{Locator}
use Rattle.ddt_path.specs.Covers.{is_strictly_below}
use Rattle.ddt_register.specs.declared.zone.Zone.{Zone}
use Rattle.ddt_register.specs.declared.site.Site.{Site}
use Rattle.ddt_register.specs.declared.group.Group.{Group}
use Rattle.ddt_register.specs.declared.register.Register.{Register}
use Rattle.ddt_check.specs.declared.fault.Rule.{Rule}
use Rattle.ddt_check.specs.declared.fault.Rule.TheVariants as rules
use Rattle.ddt_path.specs.Locators.{lists, are_distinct, most_locators}
use Rattle.ddt_check.specs.Zones.{is_ms, is_same_role, zone_of, group_named}

-- some item of a list is in the row and passes the test
abbrev pub item_at : {A : Type 0} → (A → ℕ) → (A → Bool) → List A → ℕ → Bool
item_at row_of test items row = list_any (λ x. row_of x == row && test x) items

-- Whether a zone is in this row and passes the test: so A1, A2, A4, A5 and A7 are tested at a row.
abbrev pub zone_at : Register → ℕ → (Zone → Bool) → Bool
zone_at r row test = item_at (λ z. z.row) test r.zones row

-- Whether a site is in this row and passes the test: so A3, A8 and A9 are tested at a row.
abbrev pub site_at : Register → ℕ → (Site → Bool) → Bool
site_at r row test = item_at (λ s. s.row) test r.sites row

-- Whether a group is in this row and passes the test: so A6 and A10 are tested at a row.
abbrev pub group_at : Register → ℕ → (Group → Bool) → Bool
group_at r row test = item_at (λ g. g.row) test r.groups row

-- some item of a list is in an earlier row than this one and passes the test
abbrev pub earlier_item : {A : Type 0} → (A → ℕ) → List A → A → (A → Bool) → Bool
earlier_item row_of items x test = list_any (λ y. nat_lt (row_of y) (row_of x) && test y) items

-- Whether a zone in an earlier row than this one passes the test: A1 looks there for another root.
abbrev pub earlier_zone : Register → Zone → (Zone → Bool) → Bool
earlier_zone r z test = earlier_item (λ y. y.row) r.zones z test

-- Whether a group in an earlier row than this one passes the test: A6 looks there for a locator of this group.
abbrev pub earlier_group : Register → Group → (Group → Bool) → Bool
earlier_group r g test = earlier_item (λ h. h.row) r.groups g test

-- an item of an earlier row has the item's key: the digits of its prefix, or the bytes of its name
abbrev pub is_duplicate : {A : Type 0} → (A → List ℕ) → (A → ℕ) → List A → A → Bool
is_duplicate key row_of items x = earlier_item row_of items x (λ y. pointwise ◌==◌ (key y) (key x))

-- the zone of everything
abbrev pub is_root : Zone → Bool
is_root z = length z.prefix == 0

-- A1: a root that isn't the first, or that Map-Servers serve
abbrev pub is_wrong_root : Register → Zone → Bool
is_wrong_root r z = is_root z && (is_ms z.kind || earlier_zone r z is_root)

-- A2: a zone of the same prefix is in an earlier row
abbrev pub is_duplicate_zone : Register → Zone → Bool
is_duplicate_zone r z = is_duplicate (λ y. y.prefix) (λ y. y.row) r.zones z

-- A3: a site of the same prefix is in an earlier row; a site inside another's prefix breaks no rule
abbrev pub is_duplicate_site : Register → Site → Bool
is_duplicate_site r s = is_duplicate (λ t. t.prefix) (λ t. t.row) r.sites s

-- A4: no row defines the zone's group
abbrev pub is_of_unknown_group : Register → Zone → Bool
is_of_unknown_group r z = not (is_some (group_named r z.group))

-- A5: a zone of DDT nodes that names a group of Map-Servers, or the other way round; of two rows of one group name
-- the first counts
abbrev pub is_of_other_role : Register → Zone → Bool
is_of_other_role r z = option_map_or (λ g. not (is_same_role g.kind z.kind)) (group_named r z.group) false

-- whether two lists of locators share one
abbrev pub share : List Locator → List Locator → Bool
share ls ms = list_any (λ l. lists ms l) ls

-- A6: a group whose locators are none, or above 8, or not all new: one repeats in the row, or is in an earlier group's
abbrev pub has_wrong_locators : Register → Group → Bool
has_wrong_locators r g =
    (length g.locators == 0 || nat_lt most_locators (length g.locators))
    || (not (are_distinct g.locators) || earlier_group r g (λ h. share h.locators g.locators))

-- A7: some zone of Map-Servers holds this zone inside it
abbrev pub is_below_map_server : Register → Zone → Bool
is_below_map_server r z = list_any (λ y. is_ms y.kind && is_strictly_below z.prefix y.prefix) r.zones

-- A8: the site's own zone is of nodes, or it has none; a zone equal to the site counts
abbrev pub is_outside : Register → Site → Bool
is_outside r s = option_map_or (λ z. not (is_ms z.kind)) (zone_of r s.prefix) true

-- A9: above 8 ETRs
abbrev pub has_too_many_etrs : Site → Bool
has_too_many_etrs s = nat_lt most_locators (length s.etrs)

-- A10: a group of the same name is in an earlier row
abbrev pub is_duplicate_group : Register → Group → Bool
is_duplicate_group r g = is_duplicate (λ h. h.name) (λ h. h.row) r.groups g

-- where a rule is broken; A1 at row 0 where no zone is the root
abbrev pub broken : Register → Rule → ℕ → Bool
broken r rules.NoRoot row = if list_any is_root r.zones then zone_at r row (is_wrong_root r) else row == 0
broken r rules.DuplicateZone row = zone_at r row (is_duplicate_zone r)
broken r rules.DuplicateSite row = site_at r row (is_duplicate_site r)
broken r rules.UnknownGroup row = zone_at r row (is_of_unknown_group r)
broken r rules.Role row = zone_at r row (is_of_other_role r)
broken r rules.Locators row = group_at r row (has_wrong_locators r)
broken r rules.BelowMapServer row = zone_at r row (is_below_map_server r)
broken r rules.SiteOutside row = site_at r row (is_outside r)
broken r rules.TooManyEtrs row = site_at r row has_too_many_etrs
broken r rules.DuplicateGroup row = group_at r row (is_duplicate_group r)

-- no rule is broken at any row
abbrev pub IsAccepted : Register → Type 0
IsAccepted r = (rule : Rule) (row : ℕ) → broken r rule row ≡ false

-- all rules, in the order in which faults are named
abbrev pub all_rules : List Rule
all_rules = rules.NoRoot ∷ rules.DuplicateZone ∷ rules.DuplicateSite ∷ rules.UnknownGroup ∷ rules.Role ∷ rules.Locators
    ∷ rules.BelowMapServer ∷ rules.SiteOutside ∷ rules.TooManyEtrs ∷ rules.DuplicateGroup ∷ []

-- the place of a rule in this order, from 1
abbrev pub rule_number : Rule → ℕ
rule_number rules.NoRoot = 1
rule_number rules.DuplicateZone = 2
rule_number rules.DuplicateSite = 3
rule_number rules.UnknownGroup = 4
rule_number rules.Role = 5
rule_number rules.Locators = 6
rule_number rules.BelowMapServer = 7
rule_number rules.SiteOutside = 8
rule_number rules.TooManyEtrs = 9
rule_number rules.DuplicateGroup = 10

-- this rule is broken at this row, no rule before it is broken, and it is broken at no lower row
pub record IsLeastFault (r : Register) (rule : Rule) (row : ℕ) : Type 0 where
  pub breaks : broken r rule row ≡ true
  pub least_rule : (earlier : Rule) (n : ℕ) → rule_number earlier < rule_number rule → broken r earlier n ≡ false
  pub least_row : (n : ℕ) → n < row → broken r rule n ≡ false

-- the least row that a test holds at, where it holds at any
abbrev pub IsLeastRow : (ℕ → Bool) → Option ℕ → Type 0
IsLeastRow test found = MatchOption found ((n : ℕ) → test n ≡ false) (λ row.
    (test row ≡ true) × ((n : ℕ) → n < row → test n ≡ false))
