-- The register that joins two: the rows of ours, and those of theirs that ours lacks.
use Rattle.std.specs.Prelude.{◌≡◌, ℕ, ◌+◌, Bool, true, false, ◌==◌, ◌&&◌, not, List, [], ◌∷◌, ◌++◌, length, map, find, Option}
use Rattle.std.specs.List.{filter}
use Rattle.std.specs.Option.{option_map_or}
use Rattle.ddt_path.specs.Covers.{is_same_path}
use Rattle.ddt_register.specs.declared.zone.Zone.{Zone}
use Rattle.ddt_register.specs.declared.site.Site.{Site}
use Rattle.ddt_register.specs.declared.group.Group.{Group}
use Rattle.ddt_register.specs.declared.register.Register.{Register}
use Rattle.ddt_check.specs.Zones.{is_same_role, group_named}
use Rattle.ddt_path.specs.Names.{is_same_name}
use Rattle.ddt_plan.specs.Changes.{are_same_servers}
use Rattle.ddt_organisations.specs.declared.seam.items_by_key.Servers.{Servers}

-- ---- what a row says, its number left out

abbrev pub zone_text : Zone → Zone
zone_text z = record { prefix = z.prefix; kind = z.kind; group = z.group; row = 0 }

abbrev pub site_text : Site → Site
site_text s = record { prefix = s.prefix; etrs = s.etrs; row = 0 }

abbrev pub group_text : Group → Group
group_text g = record { name = g.name; kind = g.kind; locators = g.locators; row = 0 }

-- ---- which rows a register lacks

-- the first zone of a prefix
abbrev pub zone_at : Register → List ℕ → Option Zone
zone_at r p = find (λ z. is_same_path z.prefix p) r.zones

-- the first site of a prefix
abbrev pub site_at : Register → List ℕ → Option Site
site_at r p = find (λ s. is_same_path s.prefix p) r.sites

-- a zone that the register has not, or has with another kind or another group
abbrev pub lacks_zone : Register → Zone → Bool
lacks_zone r z = not (option_map_or (λ own. is_same_role own.kind z.kind && is_same_name own.group z.group)
    (zone_at r z.prefix) false)

-- a site that the register has not, or has with other ETRs
abbrev pub lacks_site : Register → Site → Bool
lacks_site r s = not (option_map_or (λ own. are_same_servers own.etrs s.etrs) (site_at r s.prefix) false)

-- what a group has under its name
abbrev pub servers_of : Group → Servers
servers_of g = record { kind = g.kind; locators = g.locators }

-- a group that the register has not, or has with another kind or other locators
abbrev pub lacks_group : Register → Group → Bool
lacks_group r g = not (option_map_or (λ own. is_same_role own.kind g.kind && are_same_servers own.locators g.locators)
    (group_named r g.name) false)

-- ---- how many rows there are

-- how many rows the two have, each once
abbrev pub joined_rows : Register → Register → ℕ
joined_rows ours theirs = (length ours.groups + length (filter (lacks_group ours) theirs.groups))
    + (length ours.zones + length (filter (lacks_zone ours) theirs.zones))
    + (length ours.sites + length (filter (lacks_site ours) theirs.sites))

-- the rows are those after so many others, one after another
abbrev pub numbered : ℕ → List ℕ → Bool
numbered before [] = true
numbered before (row ∷ rows) = (row == before + 1) && numbered (before + 1) rows

-- ---- the joined register

-- The rows of both, each once, whatever their numbers. Where the two differ in a row, both rows are there, and the
-- register isn't accepted.
pub record IsJoined (ours theirs joined : Register) : Type 0 where
  pub zones : map zone_text joined.zones
      ≡ map zone_text ours.zones ++ map zone_text (filter (lacks_zone ours) theirs.zones)
  pub sites : map site_text joined.sites
      ≡ map site_text ours.sites ++ map site_text (filter (lacks_site ours) theirs.sites)
  pub groups : map group_text joined.groups
      ≡ map group_text ours.groups ++ map group_text (filter (lacks_group ours) theirs.groups)
