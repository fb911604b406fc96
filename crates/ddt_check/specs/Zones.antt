-- What is looked up in a register: a zone of an identifier, a group of a name, the locators of a group, served zones.
use Rattle.std.specs.Prelude.{ℕ, Bool, true, false, ◌&&◌, not, List, [], ◌∷◌, find, Option}
use Rattle.std.specs.List.{list_any, filter}
use Rattle.std.specs.Option.{option_map_or}
use Rattle.ddt_path.specs.declared.locator.Locator.{Locator}
use Rattle.ddt_path.specs.declared.locator.Locator.TheVariants.{V4}
use Rattle.ddt_path.specs.declared.record.Role.{Role}
use Rattle.ddt_path.specs.declared.record.Role.TheVariants.{Node, Ms}
use Rattle.ddt_path.specs.Covers.{covers, is_strictly_below}
use Rattle.ddt_path.specs.Locators.{lists}
use Rattle.ddt_path.specs.Names.{is_same_name}
use Rattle.ddt_path.specs.Matching.{longest_match}
use Rattle.ddt_register.specs.declared.zone.Zone.{Zone}
use Rattle.ddt_register.specs.declared.site.Site.{Site}
use Rattle.ddt_register.specs.declared.group.Group.{Group}
use Rattle.ddt_register.specs.declared.register.Register.{Register}

-- Whether a zone is of Map-Servers, and not of DDT nodes: A1, A7 and A8 ask it.
abbrev pub is_ms : Role → Bool
is_ms Node = false
is_ms Ms = true

-- Both are DDT nodes, or both are Map-Servers: A5 compares the kinds of a zone and of its group.
abbrev pub is_same_role : Role → Role → Bool
is_same_role Node Node = true
is_same_role Ms Ms = true
is_same_role Node Ms = false
is_same_role Ms Node = false

-- The zone of a path: the longest zone that covers it. An accepted register has one, and one alone, for each
-- identifier; of another register this is the first of the longest.
abbrev pub zone_of : Register → List ℕ → Option Zone
zone_of r x = longest_match (λ z. z.prefix) r.zones x

-- The site of a path: the longest site that covers it; sites may lie inside sites. In an accepted register no two sites
-- have one prefix; of another register this is the first of the longest.
abbrev pub site_of : Register → List ℕ → Option Site
site_of r x = longest_match (λ s. s.prefix) r.sites x

-- the first group row of a name
abbrev pub group_named : Register → List ℕ → Option Group
group_named r name = find (λ g. is_same_name g.name name) r.groups

-- The locators of the group of that name. Where no row has the name there are none: an accepted register names
-- no such group.
abbrev pub locators_of : Register → List ℕ → List Locator
locators_of r name = option_map_or (λ g. g.locators) (group_named r name) []

-- The first locator of a group. A group without one gives 0.0.0.0: an accepted register has no such group.
abbrev pub first_locator : List Locator → Locator
first_locator [] = V4 0
first_locator (l ∷ ls) = l

-- a zone that names a group as its own
abbrev pub is_served_by : Group → Zone → Bool
is_served_by g z = is_same_name g.name z.group

-- a zone between two others: strictly below the one, and the other strictly below it
abbrev pub is_between : Zone → Zone → Zone → Bool
is_between z c y = is_strictly_below y.prefix z.prefix && is_strictly_below c.prefix y.prefix

-- a zone strictly below another, with no zone between: a child in the delegation tree
abbrev pub is_direct_child : Register → Zone → Zone → Bool
is_direct_child r z c = is_strictly_below c.prefix z.prefix && not (list_any (is_between z c) r.zones)

-- a site inside a zone: one that the zone covers
abbrev pub is_site_in : Zone → Site → Bool
is_site_in z s = covers z.prefix s.prefix

-- the root's locators: those of the group that serves everything
abbrev pub roots : Register → List Locator
roots r = option_map_or (λ z. locators_of r z.group) (zone_of r []) []

-- the zones whose group lists a locator, in the order of their rows
abbrev pub served_zones : Register → Locator → List Zone
served_zones r l = filter (λ z. lists (locators_of r z.group) l) r.zones
