-- Worked registers, foremost the campus of examples/campus.csv, and what the definitions give of them.
use Rattle.std.specs.Prelude.{◌≡◌, ℕ, Bool, ◌==◌, List, [], ◌∷◌, map, take, true, false, codes, refl, Some, None}
use Rattle.std.specs.List.{list_any, list_all}
use Rattle.ddt_path.specs.declared.locator.Locator.{Locator}
use Rattle.ddt_path.specs.declared.locator.Locator.TheVariants.{V4, V6}
use Rattle.ddt_path.specs.declared.form.Form.TheVariants.{Range, Block}
use Rattle.ddt_path.specs.declared.record.Role.TheVariants.{Node, Ms}
use Rattle.ddt_path.specs.declared.action.Action.TheVariants.{NodeReferral, MsReferral, MsAck, MsNotRegistered, DelegationHole, NotAuthoritative}
use Rattle.ddt_path.specs.declared.record.Outcome.TheVariants.{Registered, NotRegistered, Hole}
use Rattle.ddt_path.specs.Path.{digits, path, xeid_path}
use Rattle.ddt_path.specs.Free.{free}
use Rattle.ddt_register.specs.declared.zone.Zone.{Zone}
use Rattle.ddt_register.specs.declared.site.Site.{Site}
use Rattle.ddt_register.specs.declared.group.Group.{Group}
use Rattle.ddt_register.specs.declared.register.Register.{Register}
use Rattle.ddt_register.specs.Ranges.{is_in_range}
use Rattle.ddt_check.specs.declared.fault.Rule.{Rule}
use Rattle.ddt_check.specs.declared.fault.Rule.TheVariants as rules
use Rattle.ddt_check.specs.Rules.{all_rules, broken, rule_number}
use Rattle.ddt_check.specs.Assignment.{assignment}
use Rattle.ddt_check.specs.Says.{says}

-- [iid]a.b.c.d, as a path
abbrev pub v4 : ℕ → ℕ → List ℕ
v4 iid address = xeid_path (record { iid = iid; address = V4 address })

-- [0]a.b.c.d/len, as a path
abbrev pub block : ℕ → ℕ → List ℕ
block address len = path (Block 0 (V4 address) len)

-- The name, in bytes, of the group that serves everything.
abbrev pub root : List ℕ
root = codes "root"

-- The name of the group of DDT nodes that serves [0]10.0.0.0/8.
abbrev pub ten : List ℕ
ten = codes "ten"

-- The name of the group of Map-Servers that serves [0]10.1.0.0/16 in the campus.
abbrev pub east : List ℕ
east = codes "east"

-- 127.0.0.1: the one server of root.
abbrev pub at_root : Locator
at_root = V4 0x7f000001

-- 127.0.0.10: the one server of ten.
abbrev pub at_ten : Locator
at_ten = V4 0x7f00000a

-- 127.0.1.1 and 127.0.1.2: the Map-Servers of east, in the order in which answers list them.
abbrev pub at_east : List Locator
at_east = V4 0x7f000101 ∷ V4 0x7f000102 ∷ []

-- Row 1: DDT nodes, at 127.0.0.1 alone.
abbrev pub root_group : Group
root_group = record { name = root; kind = Node; locators = at_root ∷ []; row = 1 }

-- Row 2: DDT nodes, at 127.0.0.10 alone.
abbrev pub ten_group : Group
ten_group = record { name = ten; kind = Node; locators = at_ten ∷ []; row = 2 }

-- Row 3: Map-Servers, at 127.0.1.1 and 127.0.1.2.
abbrev pub east_group : Group
east_group = record { name = east; kind = Ms; locators = at_east; row = 3 }

-- The zone * of root in the row that is given: row 4 in the campus, and 9 where it is a second root.
abbrev pub root_zone : ℕ → Zone
root_zone row = record { prefix = []; kind = Node; group = root; row = row }

-- [0]10.0.0.0/8, served by the DDT nodes of ten, in the row that is given: row 5 in the campus, 4 in shared_group.
abbrev pub ten_zone : ℕ → Zone
ten_zone row = record { prefix = block 0x0a000000 8; kind = Node; group = ten; row = row }

-- [0]10.1.0.0/16 in row 6, served by the Map-Servers of east.
abbrev pub east_zone : Zone
east_zone = record { prefix = block 0x0a010000 16; kind = Ms; group = east; row = 6 }

-- [0]10.1.2.0/24 in row 7, registered: its one ETR is 127.0.2.1.
abbrev pub registered_site : Site
registered_site = record { prefix = block 0x0a010200 24; etrs = V4 0x7f000201 ∷ []; row = 7 }

-- [0]10.1.4.0/24 in row 8, known but not registered: it has no ETR.
abbrev pub silent_site : Site
silent_site = record { prefix = block 0x0a010400 24; etrs = []; row = 8 }

-- [0]10.1.0.0/16 in row 5 of shared_group: root serves it too, inside the zone of ten.
abbrev pub inner_root_zone : Zone
inner_root_zone = record { prefix = block 0x0a010000 16; kind = Node; group = root; row = 5 }

-- The zones of the campus, in rows 4 to 6: everything, [0]10.0.0.0/8 and [0]10.1.0.0/16.
abbrev pub campus_zones : List Zone
campus_zones = root_zone 4 ∷ ten_zone 5 ∷ east_zone ∷ []

-- The zones of the campus and one more after them; each example puts that one in row 9.
abbrev pub with_zone : Zone → List Zone
with_zone z = root_zone 4 ∷ ten_zone 5 ∷ east_zone ∷ z ∷ []

-- A zone of DDT nodes in row 9, a block of instance 0 by its address and length, served by ten.
abbrev pub zone_nine : ℕ → ℕ → Zone
zone_nine address len = record { prefix = block address len; kind = Node; group = ten; row = 9 }

-- The registered site and the silent one, both inside the zone of east.
abbrev pub campus_sites : List Site
campus_sites = registered_site ∷ silent_site ∷ []

-- The sites of the campus and one more after them; each example puts that one in row 9.
abbrev pub with_site : Site → List Site
with_site s = registered_site ∷ silent_site ∷ s ∷ []

-- A site in row 9, a block of instance 0 by its address and length, with these ETRs: with none it isn't registered.
abbrev pub site_nine : ℕ → ℕ → List Locator → Site
site_nine address len etrs = record { prefix = block address len; etrs = etrs; row = 9 }

-- The groups of the campus, in rows 1 to 3: DDT nodes in root and ten, Map-Servers in east.
abbrev pub campus_groups : List Group
campus_groups = root_group ∷ ten_group ∷ east_group ∷ []

-- The groups of the campus and one more after them; each example puts that one in row 9.
abbrev pub with_group : Group → List Group
with_group g = root_group ∷ ten_group ∷ east_group ∷ g ∷ []

-- A group of DDT nodes in row 9, of this name and with these locators.
abbrev pub group_nine : List ℕ → List Locator → Group
group_nine name locators = record { name = name; kind = Node; locators = locators; row = 9 }

-- [0]12.0.0.0/8 in row 9, a zone of Map-Servers whose group, ten, has DDT nodes: the example of A5.
abbrev pub ms_zone : Zone
ms_zone = record { prefix = block 0x0c000000 8; kind = Ms; group = ten; row = 9 }

-- [0]12.0.0.0/8 in row 9, a zone of DDT nodes whose group, west, has no row: the example of A4.
abbrev pub west_zone : Zone
west_zone = record { prefix = block 0x0c000000 8; kind = Node; group = codes "west"; row = 9 }

-- 1.0.0.1 to 1.0.0.9
abbrev pub nine_locators : List Locator
nine_locators = map V4 (0x01000001 ∷ 0x01000002 ∷ 0x01000003 ∷ 0x01000004 ∷ 0x01000005 ∷ 0x01000006 ∷ 0x01000007
    ∷ 0x01000008 ∷ 0x01000009 ∷ [])

-- the numbers of all these items are in the ranges of their types
pub record AreInRange : Type 0 where
  pub campus : is_in_range campus_zones campus_sites campus_groups ≡ true
  pub shared_group : is_in_range (root_zone 3 ∷ ten_zone 4 ∷ inner_root_zone ∷ []) [] (root_group ∷ ten_group ∷ [])
      ≡ true
  pub lone_root : is_in_range (root_zone 2 ∷ []) [] (root_group ∷ []) ≡ true
  pub ms_zone : is_in_range (with_zone ms_zone) campus_sites campus_groups ≡ true
  pub west_zone : is_in_range (with_zone west_zone) campus_sites campus_groups ≡ true
  pub second_root : is_in_range (with_zone (root_zone 9)) campus_sites campus_groups ≡ true
  pub duplicate_zone : is_in_range (with_zone (zone_nine 0x0a000000 8)) campus_sites campus_groups ≡ true
  pub below_map_server : is_in_range (with_zone (zone_nine 0x0a010700 24)) campus_sites campus_groups ≡ true
  pub duplicate_site : is_in_range campus_zones (with_site (site_nine 0x0a010200 24 [])) campus_groups ≡ true
  pub site_inside_a_site : is_in_range campus_zones (with_site (site_nine 0x0a010280 25 [])) campus_groups ≡ true
  pub inner_site : is_in_range campus_zones (with_site (site_nine 0x0a010480 25 (V4 0x7f000202 ∷ []))) campus_groups
      ≡ true
  pub inner_silent_site : is_in_range campus_zones (with_site (site_nine 0x0a010240 26 [])) campus_groups ≡ true
  pub site_outside : is_in_range campus_zones (with_site (site_nine 0x0a020000 24 [])) campus_groups ≡ true
  pub too_many_etrs : is_in_range campus_zones (with_site (site_nine 0x0a010500 24 nine_locators)) campus_groups ≡ true
  pub eight_etrs : is_in_range campus_zones (with_site (site_nine 0x0a010500 24 (take 8 nine_locators))) campus_groups
      ≡ true
  pub taken_locator : is_in_range campus_zones campus_sites (with_group (group_nine (codes "west") (at_root ∷ [])))
      ≡ true
  pub no_locator : is_in_range campus_zones campus_sites (with_group (group_nine (codes "west") [])) ≡ true
  pub duplicate_group : is_in_range campus_zones campus_sites (with_group (group_nine east (V4 0x7f000109 ∷ []))) ≡ true

pub numbers : AreInRange
unfolding digits
numbers = record {
  campus = refl;
  shared_group = refl;
  lone_root = refl;
  ms_zone = refl;
  west_zone = refl;
  second_root = refl;
  duplicate_zone = refl;
  below_map_server = refl;
  duplicate_site = refl;
  site_inside_a_site = refl;
  inner_site = refl;
  inner_silent_site = refl;
  site_outside = refl;
  too_many_etrs = refl;
  eight_etrs = refl;
  taken_locator = refl;
  no_locator = refl;
  duplicate_group = refl;
}

-- examples/campus.csv, an accepted register: groups in rows 1 to 3, zones in rows 4 to 6, sites in rows 7 and 8.
abbrev pub campus : Register
campus = record {
  zones = campus_zones;
  sites = campus_sites;
  groups = campus_groups;
  rows = refl;
  in_range = numbers.campus;
}

-- examples/shared_group.csv
abbrev pub shared_group : Register
shared_group = record {
  zones = root_zone 3 ∷ ten_zone 4 ∷ inner_root_zone ∷ [];
  sites = [];
  groups = root_group ∷ ten_group ∷ [];
  rows = refl;
  in_range = numbers.shared_group;
}

-- the root alone
abbrev pub lone_root : Register
lone_root = record {
  zones = root_zone 2 ∷ [];
  sites = [];
  groups = root_group ∷ [];
  rows = refl;
  in_range = numbers.lone_root;
}

-- what the campus assigns
pub record CampusAssigns : Type 0 where
  pub registered : assignment campus (v4 0 0x0a010203) ≡ Registered (block 0x0a010200 24) at_east
  pub not_registered : assignment campus (v4 0 0x0a010407) ≡ NotRegistered (block 0x0a010400 24) at_east
  pub beside_a_zone : assignment campus (v4 0 0x0a020001) ≡ Hole (block 0x0a020000 15)
  pub beside_a_site : assignment campus (v4 0 0x0a010309) ≡ Hole (block 0x0a010300 24)
  pub beside_ten : assignment campus (v4 0 0x0b000001) ≡ Hole (block 0x0b000000 8)
  pub other_instance : assignment campus (v4 1 0x0a010203) ≡ Hole (path (Range 1 32))
  pub far_instance : assignment campus (v4 2147483648 0x0a000001) ≡ Hole (path (Range 2147483648 1))
  pub other_family : assignment campus (xeid_path (record { iid = 0; address = V6 0x20010db8000000000000000000000001 }))
      ≡ Hole (path (Block 0 (V6 0) 0))

-- what the campus's servers say
pub record CampusSays : Type 0 where
  pub root_refers : says campus at_root (v4 0 0x0a010203) ≡ record {
    action = NodeReferral;
    prefix = block 0x0a000000 8;
    ttl = 1440;
    incomplete = false;
    servers = at_ten ∷ [];
  }
  pub ten_refers : says campus at_ten (v4 0 0x0a010203) ≡ record {
    action = MsReferral;
    prefix = block 0x0a010000 16;
    ttl = 1440;
    incomplete = false;
    servers = at_east;
  }
  pub east_acknowledges : says campus (V4 0x7f000102) (v4 0 0x0a010203) ≡ record {
    action = MsAck;
    prefix = block 0x0a010200 24;
    ttl = 1440;
    incomplete = false;
    servers = at_east;
  }
  pub east_knows_the_silent_site : says campus (V4 0x7f000101) (v4 0 0x0a010407) ≡ record {
    action = MsNotRegistered;
    prefix = block 0x0a010400 24;
    ttl = 1;
    incomplete = false;
    servers = at_east;
  }
  pub root_says_a_hole : says campus at_root (v4 2147483648 0x0a000001) ≡ record {
    action = DelegationHole;
    prefix = path (Range 2147483648 1);
    ttl = 15;
    incomplete = false;
    servers = [];
  }
  pub ten_is_not_in_charge : says campus at_ten (v4 0 0x0b000001) ≡ record {
    action = NotAuthoritative;
    prefix = v4 0 0x0b000001;
    ttl = 0;
    incomplete = true;
    servers = [];
  }

-- where one group serves a zone inside another's, and where there is the root alone
pub record OthersAssign : Type 0 where
  pub hole_stays_inside : assignment shared_group (v4 0 0x0a010203) ≡ Hole (block 0x0a010000 16)
  pub longest_authority : says shared_group at_root (v4 0 0x0a010203) ≡ record {
    action = DelegationHole;
    prefix = block 0x0a010000 16;
    ttl = 15;
    incomplete = false;
    servers = [];
  }
  pub ten_refers_to_root : says shared_group at_ten (v4 0 0x0a010203) ≡ record {
    action = NodeReferral;
    prefix = block 0x0a010000 16;
    ttl = 1440;
    incomplete = false;
    servers = at_root ∷ [];
  }
  pub everything : assignment lone_root (v4 7 0x01010101) ≡ Hole []
  pub single_identifier : free [] (block 0x0a090909 32 ∷ []) (v4 0 0x0a090908) ≡ Some (block 0x0a090908 32)
  pub free_beside_ten : free [] (block 0x0a000000 8 ∷ []) (v4 0 0x0b000001) ≡ Some (block 0x0b000000 8)
  pub none_free : free [] (block 0x0a000000 8 ∷ []) (v4 0 0x0a010203) ≡ None

-- The campus with a zone of DDT nodes in row 9, a block of instance 0 that ten serves: the examples of A2 and A7.
abbrev pub zone_in_nine : (address len : ℕ) → is_in_range (with_zone (zone_nine address len)) campus_sites campus_groups
    ≡ true → Register
zone_in_nine address len fits = record {
  zones = with_zone (zone_nine address len);
  sites = campus_sites;
  groups = campus_groups;
  rows = refl;
  in_range = fits;
}

-- The campus with a zone of Map-Servers in row 9, [0]12.0.0.0/8, whose group has DDT nodes: it breaks A5.
abbrev pub ms_zone_of_ten : Register
ms_zone_of_ten = record {
  zones = with_zone ms_zone;
  sites = campus_sites;
  groups = campus_groups;
  rows = refl;
  in_range = numbers.ms_zone;
}

-- The campus with [0]12.0.0.0/8 in row 9, a zone whose group has no row: it breaks A4.
abbrev pub zone_of_west : Register
zone_of_west = record {
  zones = with_zone west_zone;
  sites = campus_sites;
  groups = campus_groups;
  rows = refl;
  in_range = numbers.west_zone;
}

-- The campus with a second zone * in row 9: it breaks A1 there, and A2 too, of which A1 is the one that is named.
abbrev pub second_root : Register
second_root = record {
  zones = with_zone (root_zone 9);
  sites = campus_sites;
  groups = campus_groups;
  rows = refl;
  in_range = numbers.second_root;
}

-- The campus with a site of instance 0 in row 9: the examples of A3, A8 and A9, and of sites inside sites.
abbrev pub site_in_nine : (address len : ℕ) (etrs : List Locator)
    → is_in_range campus_zones (with_site (site_nine address len etrs)) campus_groups ≡ true → Register
site_in_nine address len etrs fits = record {
  zones = campus_zones;
  sites = with_site (site_nine address len etrs);
  groups = campus_groups;
  rows = refl;
  in_range = fits;
}

-- The campus with a group of DDT nodes in row 9: the examples of A6 and A10.
abbrev pub group_in_nine : (name : List ℕ) (locators : List Locator) → is_in_range campus_zones campus_sites
    (with_group (group_nine name locators)) ≡ true → Register
group_in_nine name locators fits = record {
  zones = campus_zones;
  sites = campus_sites;
  groups = with_group (group_nine name locators);
  rows = refl;
  in_range = fits;
}

-- The campus with [0]10.1.4.128/25 in row 9, a site with an ETR inside the silent [0]10.1.4.0/24.
abbrev pub with_inner_site : Register
with_inner_site = site_in_nine 0x0a010480 25 (V4 0x7f000202 ∷ []) numbers.inner_site

-- The campus with [0]10.1.2.64/26 in row 9, a site without ETRs inside the registered [0]10.1.2.0/24.
abbrev pub with_inner_silent_site : Register
with_inner_silent_site = site_in_nine 0x0a010240 26 [] numbers.inner_silent_site

-- what sites inside sites are assigned
pub record NestedSitesAssign : Type 0 where
  pub part_of_the_outer_site : assignment with_inner_site (v4 0 0x0a010407)
      ≡ NotRegistered (block 0x0a010400 25) at_east
  pub inner_site : assignment with_inner_site (v4 0 0x0a0104c8)
      ≡ Registered (block 0x0a010480 25) at_east
  pub outer_site : assignment with_inner_silent_site (v4 0 0x0a010203)
      ≡ Registered (block 0x0a010200 24) at_east
  pub inner_silent_site : assignment with_inner_silent_site (v4 0 0x0a010246)
      ≡ NotRegistered (block 0x0a010240 26) at_east
  pub still_a_hole : assignment with_inner_site (v4 0 0x0a010309) ≡ Hole (block 0x0a010300 24)
  pub east_says_the_part : says with_inner_site (V4 0x7f000101) (v4 0 0x0a010407)
      ≡ record {
        action = MsNotRegistered;
        prefix = block 0x0a010400 25;
        ttl = 1;
        incomplete = false;
        servers = at_east;
      }
  pub east_acknowledges_the_inner_site : says with_inner_site (V4 0x7f000101) (v4 0 0x0a0104c8)
      ≡ record { action = MsAck; prefix = block 0x0a010480 25; ttl = 1440; incomplete = false; servers = at_east }

-- The register without any row: it breaks A1 at row 0, since no zone covers everything.
abbrev pub nothing : Register
nothing = record { zones = []; sites = []; groups = []; rows = refl; in_range = refl }

-- The rows of the campus, 1 to 8, and row 0, which a fault names where no row is to blame.
abbrev pub rows_to_eight : List ℕ
rows_to_eight = 0 ∷ 1 ∷ 2 ∷ 3 ∷ 4 ∷ 5 ∷ 6 ∷ 7 ∷ 8 ∷ []

-- a register, a rule, and a row at which the rule is tested
abbrev pub Tested : Type 0
Tested = Register × Rule × ℕ

abbrev pub breaks : Tested → Bool
breaks t = broken t.0 t.1 t.2

-- The rule that each breaks, in row 9, or in row 0, which has no item.
abbrev pub worked_faults : List Tested
worked_faults =
    (nothing, rules.NoRoot, 0)
    ∷ (second_root, rules.NoRoot, 9)
    ∷ (zone_in_nine 0x0a000000 8 numbers.duplicate_zone, rules.DuplicateZone, 9)
    ∷ (site_in_nine 0x0a010200 24 [] numbers.duplicate_site, rules.DuplicateSite, 9)
    ∷ (zone_of_west, rules.UnknownGroup, 9)
    ∷ (ms_zone_of_ten, rules.Role, 9)
    ∷ (group_in_nine (codes "west") (at_root ∷ []) numbers.taken_locator, rules.Locators, 9)
    ∷ (group_in_nine (codes "west") [] numbers.no_locator, rules.Locators, 9)
    ∷ (zone_in_nine 0x0a010700 24 numbers.below_map_server, rules.BelowMapServer, 9)
    ∷ (site_in_nine 0x0a020000 24 [] numbers.site_outside, rules.SiteOutside, 9)
    ∷ (site_in_nine 0x0a010500 24 nine_locators numbers.too_many_etrs, rules.TooManyEtrs, 9)
    ∷ (group_in_nine east (V4 0x7f000109 ∷ []) numbers.duplicate_group, rules.DuplicateGroup, 9)
    ∷ []

-- The rule that each just doesn't break in row 9.
abbrev pub worked_limits : List Tested
worked_limits =
    (site_in_nine 0x0a010280 25 [] numbers.site_inside_a_site, rules.DuplicateSite, 9)
    ∷ (site_in_nine 0x0a010500 24 (take 8 nine_locators) numbers.eight_etrs, rules.TooManyEtrs, 9)
    ∷ []

-- Each rule is broken by a worked register, in row 9 or 0. The campus breaks none in any of its rows.
pub record BreaksInNine : Type 0 where
  pub each_breaks : list_all breaks worked_faults ≡ true
  pub each_rule : list_all (λ rule. list_any (λ (t : Tested). rule_number t.1 == rule_number rule) worked_faults)
      all_rules ≡ true
  pub none_breaks : list_any breaks worked_limits ≡ false
  pub campus_is_whole : list_any (λ rule. list_any (broken campus rule) rows_to_eight) all_rules ≡ false
  pub campus_is_in_range : is_in_range campus.zones campus.sites campus.groups ≡ true
