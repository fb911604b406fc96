-- The names of the kinds of warnings, by which each can be turned off.
use Rattle.std.specs.Prelude.{ℕ, List, codes}
use Rattle.ddt_review.specs.declared.warnings.kind.Kind.{Kind}
use Rattle.ddt_review.specs.declared.warnings.kind.Kind.TheVariants as kinds

-- the name of a kind, as printed
abbrev pub name_of : Kind → List ℕ
name_of kinds.UnreachableLocator = codes "unreachable-locator"
name_of kinds.UnreachableEtr = codes "unreachable-etr"
name_of kinds.RepeatedEtr = codes "repeated-etr"
name_of kinds.EtrIsServer = codes "etr-is-server"
name_of kinds.EtrIsResolver = codes "etr-is-resolver"
name_of kinds.EtrInsideSite = codes "etr-inside-site"
name_of kinds.LocatorInsideEids = codes "locator-inside-eids"
name_of kinds.GroupWithoutZone = codes "group-without-zone"
name_of kinds.NodeZoneWithoutChild = codes "node-zone-without-child"
name_of kinds.ZoneBetween = codes "zone-between"
name_of kinds.ZoneOfStrangeGroup = codes "zone-of-strange-group"
name_of kinds.SiteInOtherRegion = codes "site-in-other-region"

-- the place of a kind in the order in which the warnings of a row are reported
abbrev pub kind_number : Kind → ℕ
kind_number kinds.UnreachableLocator = 0
kind_number kinds.UnreachableEtr = 1
kind_number kinds.RepeatedEtr = 2
kind_number kinds.EtrIsServer = 3
kind_number kinds.EtrIsResolver = 4
kind_number kinds.EtrInsideSite = 5
kind_number kinds.LocatorInsideEids = 6
kind_number kinds.GroupWithoutZone = 7
kind_number kinds.NodeZoneWithoutChild = 8
kind_number kinds.ZoneBetween = 9
kind_number kinds.ZoneOfStrangeGroup = 10
kind_number kinds.SiteInOtherRegion = 11
