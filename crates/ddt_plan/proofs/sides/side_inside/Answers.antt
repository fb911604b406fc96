use Rattle.ddt_plan.proofs.SideLemmas.{zone_goes, site_goes, zones_go, sites_go}
use Rattle.ddt_plan.proofs.sides.side_inside.Goals as goal

pub item_at-zone-requires : goal.item_at-zone-requires
item_at-zone-requires c = c.requires.1.zones.in_order

pub item_at-site-requires : goal.item_at-site-requires
item_at-site-requires c = c.requires.1.sites.in_order

pub items_below-zones-requires : goal.items_below-zones-requires
items_below-zones-requires c = c.requires.1.zones.in_order

pub items_below-sites-requires : goal.items_below-sites-requires
items_below-sites-requires c = c.requires.1.sites.in_order

pub side_from_items-requires-clause-zone : goal.side_from_items-requires-clause-zone
side_from_items-requires-clause-zone c =
    zone_goes c.args.accepted.now c.register-register.ensures.accepted c.requires.0 c.args.at
    c.requires.2.below c.requires.2.near c.args.division.now.zones.now c.args.division.now.zone c.item_at-zone.result
    c.requires.1.zones c.requires.1.zone c.item_at-zone.ensures

pub side_from_items-requires-clause-site : goal.side_from_items-requires-clause-site
side_from_items-requires-clause-site c =
    site_goes c.args.accepted.now c.register-register.ensures.accepted c.requires.0 c.args.at
    c.requires.2.below c.requires.2.near c.args.division.now.sites.now c.args.division.now.site c.item_at-site.result
    c.requires.1.sites c.requires.1.site c.item_at-site.ensures

pub side_from_items-requires-clause-zones : goal.side_from_items-requires-clause-zones
side_from_items-requires-clause-zones c =
    zones_go c.args.accepted.now c.requires.0 c.args.at c.requires.2.below
    c.args.division.now.zones.now c.items_below-zones.result.now c.requires.1.zones c.items_below-zones.ensures

pub side_from_items-requires-clause-sites : goal.side_from_items-requires-clause-sites
side_from_items-requires-clause-sites c =
    sites_go c.args.accepted.now c.requires.0 c.args.at c.requires.2.below
    c.args.division.now.sites.now c.items_below-sites.result.now c.requires.1.sites c.items_below-sites.ensures

pub side_from_items-requires-clause-fronts : goal.side_from_items-requires-clause-fronts
side_from_items-requires-clause-fronts c = c.requires.2.fronts
