use Rattle.std.proofs.Common.{◌≡◌, true, map, take}
use Rattle.std.specs.List.{filter}
use Rattle.std.specs.Ordering.{nat_cmp}
use Rattle.std.specs.Cmp.Lexicographic.{slice_cmp}
use Rattle.ddt_path.specs.declared.record.Role.TheVariants.{Ms}
use Rattle.ddt_register.specs.declared.zone.Zone.{Zone}
use Rattle.ddt_register.specs.declared.group.Group.{Group}
use Rattle.ddt_check.specs.Zones.{is_served_by}
use Rattle.ddt_compile.specs.GroupConfig.{sites_of, authority_of, is_wanted}
use Rattle.ddt_compile.specs.Lists.{list_at}
use Rattle.ddt_compile.proofs.ListLemmas.{AreLeft}
use Rattle.ddt_compile.proofs.configurations.authorities_by_group.Given as goal

-- the sites of the zones that are left are whole, and the authorities of each group so far are in its list
abbrev pub invariant-loop-zone : goal.invariant-loop-zone
invariant-loop-zone l =
    AreLeft (λ (z : Zone). z.prefix) (sites_of l.accepted) (λ z. (z.kind ≡ Ms) × (is_wanted l.only z.group ≡ true)) l.accepted.zones l.zone-index l.sites
    × ((g : Group) → is_wanted l.only g.name ≡ true
    → list_at (slice_cmp nat_cmp) l.lists g.name ≡ map (authority_of l.accepted) (filter (is_served_by g) (take l.zone-index l.accepted.zones)))
