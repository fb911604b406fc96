-- What longest match over the register assigns to an identifier.
use Rattle.std.specs.Prelude.{ℕ, ◌==◌, List, [], length, map, if◌then◌else◌}
use Rattle.std.specs.List.{filter}
use Rattle.std.specs.Option.{option_map_or}
use Rattle.ddt_path.specs.declared.record.Role.{Role}
use Rattle.ddt_path.specs.declared.record.Role.TheVariants.{Node, Ms}
use Rattle.ddt_path.specs.declared.record.Outcome.{Outcome}
use Rattle.ddt_path.specs.declared.record.Outcome.TheVariants.{Registered, NotRegistered, Hole}
use Rattle.ddt_path.specs.Covers.{covers, is_strictly_below}
use Rattle.ddt_path.specs.Free.{hole_of}
use Rattle.ddt_register.specs.declared.zone.Zone.{Zone}
use Rattle.ddt_register.specs.declared.site.Site.{Site}
use Rattle.ddt_register.specs.declared.register.Register.{Register}
use Rattle.ddt_check.specs.declared.holes.Inside.{Inside}
use Rattle.ddt_check.specs.declared.holes.Inside.TheVariants.{ZonesBelow, SitesWithin, SitesBelow}
use Rattle.ddt_check.specs.Zones.{zone_of, site_of, locators_of}

-- what lies inside a prefix, by what is sought: zones strictly below it, sites that it covers, sites strictly below it
abbrev pub prefixes_inside : Register → List ℕ → Inside → List (List ℕ)
prefixes_inside r p ZonesBelow = map (λ y. y.prefix) (filter (λ y. is_strictly_below y.prefix p) r.zones)
prefixes_inside r p SitesWithin = map (λ s. s.prefix) (filter (λ s. covers p s.prefix) r.sites)
prefixes_inside r p SitesBelow = map (λ s. s.prefix) (filter (λ s. is_strictly_below s.prefix p) r.sites)

-- the prefixes of the zones strictly below a zone
abbrev pub prefixes_below : Register → Zone → List (List ℕ)
prefixes_below r z = prefixes_inside r z.prefix ZonesBelow

-- the prefixes of the sites that a zone covers
abbrev pub prefixes_within : Register → Zone → List (List ℕ)
prefixes_within r z = prefixes_inside r z.prefix SitesWithin

-- the prefixes of the sites strictly below a site
abbrev pub prefixes_below_site : Register → Site → List (List ℕ)
prefixes_below_site r s = prefixes_inside r s.prefix SitesBelow

-- what is delegated or registered inside a zone: zones in a zone of DDT nodes, sites in one of Map-Servers
abbrev pub prefixes_in : Register → Zone → Role → List (List ℕ)
prefixes_in r z Node = prefixes_below r z
prefixes_in r z Ms = prefixes_within r z

-- the part of a site around an identifier: the least specific prefix in it that overlaps no site inside that site
abbrev pub part_of_site : Register → Site → List ℕ → List ℕ
part_of_site r s x = hole_of s.prefix (prefixes_below_site r s) x

-- A site that has an ETR is registered, as a whole. Of one that isn't, only the part around the identifier is said not
-- to be registered, since a site inside it may be.
abbrev pub assigned_site : Register → Zone → Site → List ℕ → Outcome
assigned_site r z s x =
    if length s.etrs == 0 then NotRegistered (part_of_site r s x) (locators_of r z.group)
    else Registered s.prefix (locators_of r z.group)

-- In a zone of Map-Servers the longest site that covers the identifier decides.
abbrev pub assigned_in : Register → Zone → Role → List ℕ → Outcome
assigned_in r z Node x = Hole (hole_of z.prefix (prefixes_in r z Node) x)
assigned_in r z Ms x =
    option_map_or (λ s. assigned_site r z s x) (site_of r x) (Hole (hole_of z.prefix (prefixes_in r z Ms) x))

-- The assignment, by the kind of the identifier's zone. Each identifier has a zone in an accepted register; for
-- another register and an identifier that no zone covers this gives the hole of everything.
abbrev pub assignment : Register → List ℕ → Outcome
assignment r x = option_map_or (λ z. assigned_in r z z.kind x) (zone_of r x) (Hole [])
