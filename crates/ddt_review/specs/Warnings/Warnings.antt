-- What an accepted register may have that is mostly a mistake: each kind is a test of a group, of a site or of a zone.
use Rattle.std.specs.Prelude.{ℕ, Bool, false, ◌&&◌, ◌||◌, not, nat_lt, max, List, drop, length, find, Option, None, Some}
use Rattle.std.specs.List.{list_any, count_by}
use Rattle.std.specs.Option.{option_map, option_map_or}
use Rattle.std.specs.Ordering.{nat_cmp, is_lt}
use Rattle.std.specs.Cmp.Lexicographic.{slice_cmp}
use Rattle.ddt_path.specs.declared.locator.Locator.{Locator}
use Rattle.ddt_path.specs.Covers.{covers, shared_len}
use Rattle.ddt_path.specs.Locators.{is_same_locator, lists}
use Rattle.ddt_path.specs.Names.{is_same_name}
use Rattle.ddt_path.specs.Path.{xeid_path, address_path}
use Rattle.ddt_register.specs.declared.zone.Zone.{Zone}
use Rattle.ddt_register.specs.declared.site.Site.{Site}
use Rattle.ddt_register.specs.declared.group.Group.{Group}
use Rattle.ddt_register.specs.declared.register.Register.{Register}
use Rattle.ddt_check.specs.Rules.{zone_at, site_at, group_at}
use Rattle.ddt_check.specs.Zones.{is_ms, is_direct_child, is_served_by, zone_of}
use Rattle.ddt_review.specs.declared.warnings.kind.Kind.{Kind}
use Rattle.ddt_review.specs.declared.warnings.kind.Kind.TheVariants as kinds
use Rattle.ddt_review.specs.Warnings.UnreachableReason.{is_unreachable}

-- ---- of groups

-- the path of the identifier of instance 0 that has a locator's address
abbrev pub eid_path : Locator → List ℕ
eid_path l = xeid_path (record { iid = 0; address = l })

-- a site covers the locator: its packets would need a mapping that is looked up by such packets
abbrev pub is_inside_eids : Register → Locator → Bool
is_inside_eids r l = list_any (λ s. covers s.prefix (eid_path l)) r.sites

-- some zone names the group
abbrev pub is_named : Register → Group → Bool
is_named r g = list_any (is_served_by g) r.zones

-- ---- of sites

-- a locator occurs more than once in a list
abbrev pub is_repeated : List Locator → Locator → Bool
is_repeated ls l = nat_lt 1 (count_by (λ m. is_same_locator m l) ls)

-- the locator is one of a group's: a Map-Server or a DDT node is reached there
abbrev pub is_server : Register → Locator → Bool
is_server r l = list_any (λ g. lists g.locators l) r.groups

-- What a site's EID-prefix says of addresses, behind its Instance ID, covers the locator's, and not all of its family:
-- a locator is of no instance.
abbrev pub is_inside_site : Site → Locator → Bool
is_inside_site s l = nat_lt 33 (length s.prefix) && covers (drop 32 s.prefix) (address_path l)

-- ---- of zones

-- the zone directly above a zone, which delegates it; the root has none
abbrev pub zone_above : Register → Zone → Option Zone
zone_above r z = find (λ p. is_direct_child r p z) r.zones

-- some zone is directly below
abbrev pub has_child : Register → Zone → Bool
has_child r z = list_any (is_direct_child r z) r.zones

-- some zone directly below is of another group than the one of this name
abbrev pub has_child_outside : Register → List ℕ → Zone → Bool
has_child_outside r name z = list_any (λ c. is_direct_child r z c && not (is_same_name c.group name)) r.zones

-- a zone between one above and those directly below it, which share a group that isn't its own
abbrev pub is_put_under : Register → Zone → Zone → Bool
is_put_under r z p =
    not (is_same_name z.group p.group) && (has_child r z && not (has_child_outside r p.group z))

-- a zone of DDT nodes that is put so under the zone directly above it
abbrev pub is_zone_between : Register → Zone → Bool
is_zone_between r z = not (is_ms z.kind) && option_map_or (is_put_under r z) (zone_above r z) false

-- the name of the group above a zone, whose servers delegate it, and that of its own; none of the root
abbrev pub delegation_of : Register → Zone → Option (List ℕ × List ℕ)
delegation_of r z = option_map (λ p. (p.group, z.group)) (zone_above r z)

-- both names are those of another pair
abbrev pub is_same_pair : List ℕ × List ℕ → List ℕ × List ℕ → Bool
is_same_pair a b = is_same_name a.0 b.0 && is_same_name a.1 b.1

-- a zone is delegated by the one group to the other
abbrev pub is_delegated : Register → List ℕ × List ℕ → Zone → Bool
is_delegated r pair z = option_map_or (is_same_pair pair) (delegation_of r z) false

-- more than one zone is
abbrev pub is_usual : Register → List ℕ × List ℕ → Bool
is_usual r pair = nat_lt 1 (count_by (is_delegated r pair) r.zones)

-- the two groups are two, and more than one zone is delegated by the one to the other
abbrev pub are_at_home : Register → List ℕ × List ℕ → Bool
are_at_home r pair = not (is_same_name pair.0 pair.1) && is_usual r pair

-- some other group delegates to the one of this name more than once
abbrev pub is_guest : Register → List ℕ → Bool
is_guest r name =
    list_any (λ z. option_map_or (λ d. are_at_home r d && is_same_name name d.1) (delegation_of r z) false) r.zones

-- the group of this name delegates to some other one more than once
abbrev pub is_host : Register → List ℕ → Bool
is_host r name =
    list_any (λ z. option_map_or (λ d. are_at_home r d && is_same_name name d.0) (delegation_of r z) false) r.zones

-- the one zone that a group delegates to another, where each has more than one such zone with a third
abbrev pub is_stranger : Register → List ℕ × List ℕ → Bool
is_stranger r pair =
    not (is_same_name pair.0 pair.1) && (not (is_usual r pair) && (is_host r pair.0 && is_guest r pair.1))

-- a zone of a group that serves none of those beside it, which are delegated by the same group
abbrev pub is_strange : Register → Zone → Bool
is_strange r z = option_map_or (is_stranger r) (delegation_of r z) false

-- such a zone, if the zone directly above isn't one
abbrev pub is_of_strange_group : Register → Zone → Bool
is_of_strange_group r z = is_strange r z && not (option_map_or (is_strange r) (zone_above r z) false)

-- ---- of sites beside each other

-- a path sorts before another in the order of their digits
abbrev pub is_before : List ℕ → List ℕ → Bool
is_before p q = is_lt (slice_cmp nat_cmp p q)

-- a site sorts before another, with no site between
abbrev pub is_next : Register → Site → Site → Bool
is_next r a b = is_before a.prefix b.prefix
    && not (list_any (λ t. is_before a.prefix t.prefix && is_before t.prefix b.prefix) r.sites)

-- how many digits the zone directly above the site's own has; 0 of the root
abbrev pub len_above : Register → Site → ℕ
len_above r s = option_map_or (λ z. option_map_or (λ p. length p.prefix) (zone_above r z) 0) (zone_of r s.prefix) 0

-- two sites are of one instance and family, and share more digits than the zone directly above a third one's has
abbrev pub are_near : Register → Site → Site → Site → Bool
are_near r s a b = nat_lt (max (len_above r s) 32) (shared_len a.prefix b.prefix)

-- two zones are there, and one group serves both
abbrev pub have_one_group : Option Zone → Option Zone → Bool
have_one_group None other = false
have_one_group (Some y) None = false
have_one_group (Some y) (Some z) = is_same_name y.group z.group

-- the zones of two sites are of one group, and the zone of the third is of another
abbrev pub is_odd : Register → Site → Site → Site → Bool
is_odd r s a b = have_one_group (zone_of r a.prefix) (zone_of r b.prefix)
    && not (have_one_group (zone_of r s.prefix) (zone_of r a.prefix))

-- the sites just before and just after are near, and served by one group, and the site by another
abbrev pub is_in_other_region : Register → Site → Bool
is_in_other_region r s = list_any (λ a. is_next r a s && list_any (λ b. is_next r s b
    && (are_near r s a b && is_odd r s a b)) r.sites) r.sites

-- ---- all kinds

-- what a group may have
abbrev pub group_has : Register → Kind → Group → Bool
group_has r kinds.UnreachableLocator g = list_any (is_unreachable r) g.locators
group_has r kinds.LocatorInsideEids g = list_any (is_inside_eids r) g.locators
group_has r kinds.GroupWithoutZone g = not (is_named r g)
group_has r kind g = false

-- what a site may have
abbrev pub site_has : Register → List Locator → Kind → Site → Bool
site_has r resolvers kinds.UnreachableEtr s = list_any (is_unreachable r) s.etrs
site_has r resolvers kinds.RepeatedEtr s = list_any (is_repeated s.etrs) s.etrs
site_has r resolvers kinds.EtrIsServer s = list_any (is_server r) s.etrs
site_has r resolvers kinds.EtrIsResolver s = list_any (lists resolvers) s.etrs
site_has r resolvers kinds.EtrInsideSite s = list_any (is_inside_site s) s.etrs
site_has r resolvers kinds.SiteInOtherRegion s = is_in_other_region r s
site_has r resolvers kind s = false

-- what a zone may have
abbrev pub zone_has : Register → Kind → Zone → Bool
zone_has r kinds.NodeZoneWithoutChild z = not (is_ms z.kind) && not (has_child r z)
zone_has r kinds.ZoneBetween z = is_zone_between r z
zone_has r kinds.ZoneOfStrangeGroup z = is_of_strange_group r z
zone_has r kind z = false

-- whether the row is warned of, where these are the addresses of Map-Resolvers
abbrev pub warns : Register → List Locator → Kind → ℕ → Bool
warns r resolvers kind row = group_at r row (group_has r kind)
    || (site_at r row (site_has r resolvers kind) || zone_at r row (zone_has r kind))
