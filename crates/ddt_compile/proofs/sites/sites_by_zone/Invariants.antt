use Rattle.std.proofs.Common.{◌≡◌, true, map, take}
use Rattle.std.specs.List.{filter, Contains}
use Rattle.std.specs.Ordering.{nat_cmp}
use Rattle.std.specs.Cmp.Lexicographic.{slice_cmp}
use Rattle.ddt_path.specs.declared.record.Role.TheVariants.{Ms}
use Rattle.ddt_register.specs.declared.zone.Zone.{Zone}
use Rattle.ddt_check.specs.Zones.{is_site_in}
use Rattle.ddt_compile.specs.GroupConfig.{entry_of, is_wanted}
use Rattle.ddt_compile.specs.Lists.{list_at}
use Rattle.ddt_compile.proofs.sites.sites_by_zone.Given as goal

abbrev pub invariant-loop-site : goal.invariant-loop-site
invariant-loop-site l =
    (z : Zone) → Contains l.accepted.zones z → z.kind ≡ Ms → is_wanted l.only z.group ≡ true
    → list_at (slice_cmp nat_cmp) l.lists z.prefix ≡ map entry_of (filter (is_site_in z) (take l.site-index l.accepted.sites))
