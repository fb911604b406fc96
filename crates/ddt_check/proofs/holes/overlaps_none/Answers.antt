use Rattle.ddt_path.specs.Covers.{is_strictly_below, covers}
use Rattle.ddt_path.specs.laws.Hole.{overlaps_none-filter}
use Rattle.ddt_check.specs.laws.Zone.{zone_prefix, site_prefix}
use Rattle.ddt_check.proofs.holes.overlaps_none.Goals as goal

pub returns-in-ZonesBelow : goal.returns-in-ZonesBelow
returns-in-ZonesBelow c = rw (c.in-ZonesBelow.is, c.overlaps_zone_below.ensures)
    (overlaps_none-filter zone_prefix (λ y. is_strictly_below y.prefix c.args.authority) _ _)

pub returns-in-SitesWithin : goal.returns-in-SitesWithin
returns-in-SitesWithin c = rw (c.in-SitesWithin.is, c.overlaps_site_within.ensures)
    (overlaps_none-filter site_prefix (λ s. covers c.args.authority s.prefix) _ _)

pub returns-in-SitesBelow : goal.returns-in-SitesBelow
returns-in-SitesBelow c = rw (c.in-SitesBelow.is, c.overlaps_site_below.ensures)
    (overlaps_none-filter site_prefix (λ s. is_strictly_below s.prefix c.args.authority) _ _)
