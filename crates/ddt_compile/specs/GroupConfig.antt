-- The configuration of a server group: its zones, and in each of them what is delegated or registered there
-- (RFC 8111, section 4).
use Rattle.std.specs.Prelude.{ℕ, Bool, true, List, map, Option}
use Rattle.std.specs.Option.{option_map, option_map_or}
use Rattle.std.specs.List.{filter}
use Rattle.ddt_path.specs.declared.record.Role.{Role}
use Rattle.ddt_path.specs.declared.record.Role.TheVariants.{Node, Ms}
use Rattle.ddt_path.specs.Names.{is_same_name}
use Rattle.ddt_register.specs.declared.zone.Zone.{Zone}
use Rattle.ddt_register.specs.declared.site.Site.{Site}
use Rattle.ddt_register.specs.declared.group.Group.{Group}
use Rattle.ddt_register.specs.declared.register.Register.{Register}
use Rattle.ddt_check.specs.Zones.{is_direct_child, is_served_by, is_site_in, locators_of, group_named}
use Rattle.ddt_config.specs.declared.child.Child.{Child}
use Rattle.ddt_config.specs.declared.site_entry.SiteEntry.{SiteEntry}
use Rattle.ddt_config.specs.declared.authority.Content.{Content}
use Rattle.ddt_config.specs.declared.authority.Content.TheVariants.{Children, Sites}
use Rattle.ddt_config.specs.declared.authority.Authority.{Authority}
use Rattle.ddt_config.specs.Table.{Outline}

-- the referral to a zone: its kind, and the locators of its group
abbrev pub child_of : Register → Zone → Child
child_of r c = record { prefix = c.prefix; role = c.kind; locators = locators_of r c.group }

-- The referrals of a zone: one to each zone directly below it, in the order of their rows.
abbrev pub children_of : Register → Zone → List Child
children_of r z = map (child_of r) (filter (is_direct_child r z) r.zones)

-- What a Map-Server knows of a site: its prefix and its ETRs, none where it isn't registered.
abbrev pub entry_of : Site → SiteEntry
entry_of s = record { prefix = s.prefix; etrs = s.etrs }

-- The sites that a zone covers, in the order of their rows: one equal to the zone counts, and so do sites inside sites.
abbrev pub sites_of : Register → Zone → List SiteEntry
sites_of r z = map entry_of (filter (is_site_in z) r.sites)

-- children in a zone of DDT nodes, sites in one of Map-Servers
abbrev pub content_of : Register → Zone → Role → Content
content_of r z Node = Children (children_of r z)
content_of r z Ms = Sites (sites_of r z)

-- A zone as the servers of its group have it: the prefix that they are in charge of, with its children or sites.
abbrev pub authority_of : Register → Zone → Authority
authority_of r z = record { prefix = z.prefix; content = content_of r z z.kind }

-- the authorities of a group: one for each of its zones, in the order of their rows
abbrev pub authorities_of : Register → Group → List Authority
authorities_of r g = map (authority_of r) (filter (is_served_by g) r.zones)

-- The one configuration of all servers of a group: name, kind, locators, and an authority for each zone that it serves.
abbrev pub group_config : Register → Group → Outline
group_config r g = record { name = g.name; role = g.kind; locators = g.locators; authorities = authorities_of r g }

-- the configuration of the group of a name, if a group has it
abbrev pub config_named : Register → List ℕ → Option Outline
config_named r name = option_map (group_config r) (group_named r name)

-- whether the group of a name is compiled: each is, or the one of the name that is asked for alone
abbrev pub is_wanted : Option (List ℕ) → List ℕ → Bool
is_wanted only name = option_map_or (is_same_name name) only true
