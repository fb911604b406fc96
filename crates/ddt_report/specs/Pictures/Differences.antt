-- How a zone differs from that of its prefix in another register.
use Rattle.std.specs.Prelude.{Bool, ◌&&◌, Option, Some, None, if◌then◌else◌}
use Rattle.std.specs.Str.{bytes_eq}
use Rattle.ddt_register.specs.declared.zone.Zone.{Zone}
use Rattle.ddt_check.specs.Zones.{is_same_role}
use Rattle.ddt_report.specs.declared.pictures.differences.ZoneDifference.{ZoneDifference}
use Rattle.ddt_report.specs.declared.pictures.differences.ZoneDifference.TheVariants.{Missing, Moved, Locators}

-- whether two zones of one prefix are served by the same group, with servers of the same kind
abbrev pub is_served_alike : Zone → Zone → Bool
is_served_alike a b = bytes_eq b.group a.group && is_same_role b.kind a.kind

-- The difference, if there is one: the zone isn't there, or another group serves it there, or its group has other
-- locators there.
abbrev pub difference_of : Zone → Option Zone → Bool → Option ZoneDifference
difference_of zone None has_same_locators = Some Missing
difference_of zone (Some there) has_same_locators =
    if is_served_alike zone there then (if has_same_locators then None else Some Locators)
    else Some (Moved there.group)
