-- Zones that a register had, and that a later one lacks.
use Rattle.std.specs.Prelude.{ℕ, Bool, ◌&&◌, not, if◌then◌else◌, List, Option, None, Some}
use Rattle.std.specs.List.{list_any, filter_map}
use Rattle.std.specs.Option.{option_and_then}
use Rattle.ddt_path.specs.Covers.{is_same_path}
use Rattle.ddt_register.specs.declared.zone.Zone.{Zone}
use Rattle.ddt_register.specs.declared.site.Site.{Site}
use Rattle.ddt_register.specs.declared.register.Register.{Register}
use Rattle.ddt_check.specs.Zones.{is_ms, zone_of}
use Rattle.ddt_review.specs.declared.warnings.missing_zone.ZonelessSite.{ZonelessSite}

-- the zone itself, if it is one of Map-Servers and none of those whose prefixes are kept
abbrev pub if_lost : (List ℕ → Bool) → Zone → Option Zone
if_lost is_kept z = if is_ms z.kind && not (is_kept z.prefix) then Some z else None

-- the longest zone that covers a prefix, if it is of Map-Servers and isn't kept
abbrev pub lost_zone : Register → (List ℕ → Bool) → List ℕ → Option Zone
lost_zone r is_kept p = option_and_then (if_lost is_kept) (zone_of r p)

-- some zone has the prefix
abbrev pub has_zone : List Zone → List ℕ → Bool
has_zone zones p = list_any (λ z. is_same_path p z.prefix) zones

-- the row of a site and the prefix of its missing zone, if it has one and the row is asked for
abbrev pub zoneless_site : Register → (List ℕ → Bool) → (ℕ → Bool) → Site → Option ZonelessSite
zoneless_site before is_kept is_asked s = option_and_then
    (λ z. if is_asked s.row then Some (record { row = s.row; zone = z.prefix }) else None) (lost_zone before is_kept s.prefix)

-- The sites of a register in the rows that are asked for whose zone in an earlier register was one of Map-Servers,
-- where the register has no zone of that prefix.
abbrev pub zoneless : Register → Register → (ℕ → Bool) → List ZonelessSite
zoneless before after is_asked = filter_map (zoneless_site before (has_zone after.zones) is_asked) after.sites
