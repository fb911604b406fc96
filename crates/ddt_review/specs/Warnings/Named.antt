-- What a warning names is what the register has: the first locator at fault in its row, the reason, and the rows of
-- other items.
use Rattle.std.specs.Prelude.{◌≡◌, ℕ, Bool, true, List, find, Some, Contains}
use Rattle.ddt_path.specs.declared.locator.Locator.{Locator}
use Rattle.ddt_path.specs.Locators.{lists}
use Rattle.ddt_register.specs.declared.zone.Zone.{Zone}
use Rattle.ddt_register.specs.declared.site.Site.{Site}
use Rattle.ddt_register.specs.declared.group.Group.{Group}
use Rattle.ddt_register.specs.declared.register.Register.{Register}
use Rattle.ddt_check.specs.Zones.{site_of}
use Rattle.ddt_review.specs.declared.warnings.kind.Kind.TheVariants as kinds
use Rattle.ddt_review.specs.declared.warnings.warning.Finding.{Finding}
use Rattle.ddt_review.specs.declared.warnings.warning.Finding.TheVariants as found
use Rattle.ddt_review.specs.declared.warnings.warning.Warning.{Warning}
use Rattle.ddt_review.specs.Warnings.UnreachableReason.{unreachable_reason, is_unreachable}
use Rattle.ddt_review.specs.Warnings.Warnings.{eid_path, is_inside_eids, is_repeated, is_server, is_inside_site, zone_above, is_next, group_has, site_has, zone_has}

-- an item of a list is in this row, and the fact holds of it
pub record IsOfRow {A : Type 0} (row_of : A → ℕ) (items : List A) (row : ℕ) (Fact : A → Type 0) : Type 0 where
  pub item : A
  pub member : Contains items item
  pub in_row : row_of item ≡ row
  pub fact : Fact item

-- the fact holds of the group, the site or the zone in this row
abbrev pub IsOfGroup : Register → ℕ → (Group → Type 0) → Type 0
IsOfGroup r row Fact = IsOfRow (λ g. g.row) r.groups row Fact

abbrev pub IsOfSite : Register → ℕ → (Site → Type 0) → Type 0
IsOfSite r row Fact = IsOfRow (λ s. s.row) r.sites row Fact

abbrev pub IsOfZone : Register → ℕ → (Zone → Type 0) → Type 0
IsOfZone r row Fact = IsOfRow (λ z. z.row) r.zones row Fact

-- the locator is the first of a list that passes the test
abbrev pub IsFirst : (Locator → Bool) → List Locator → Locator → Type 0
IsFirst test ls l = find test ls ≡ Some l

-- What was found in a row is true: the locator is the first of the row's that is so, with its reason, and other rows
-- are those of a group that lists it, of the longest site over it, of the zone directly above, and of the sites just
-- before and just after.
abbrev pub IsTrueFinding : Register → List Locator → ℕ → Finding → Type 0
IsTrueFinding r resolvers row (found.UnreachableLocator l reason) =
    IsOfGroup r row (λ g. IsFirst (is_unreachable r) g.locators l × (unreachable_reason l ≡ Some reason))
IsTrueFinding r resolvers row (found.UnreachableEtr l reason) =
    IsOfSite r row (λ s. IsFirst (is_unreachable r) s.etrs l × (unreachable_reason l ≡ Some reason))
IsTrueFinding r resolvers row (found.RepeatedEtr l) =
    IsOfSite r row (λ s. IsFirst (is_repeated s.etrs) s.etrs l)
IsTrueFinding r resolvers row (found.EtrIsServer l group) =
    IsOfSite r row (λ s. IsFirst (is_server r) s.etrs l) × IsOfGroup r group (λ g. lists g.locators l ≡ true)
IsTrueFinding r resolvers row (found.EtrIsResolver l) =
    IsOfSite r row (λ s. IsFirst (lists resolvers) s.etrs l)
IsTrueFinding r resolvers row (found.EtrInsideSite l) =
    IsOfSite r row (λ s. IsFirst (is_inside_site s) s.etrs l)
IsTrueFinding r resolvers row (found.LocatorInsideEids l site) =
    IsOfGroup r row (λ g. IsFirst (is_inside_eids r) g.locators l)
    × IsOfSite r site (λ s. site_of r (eid_path l) ≡ Some s)
IsTrueFinding r resolvers row found.GroupWithoutZone =
    IsOfGroup r row (λ g. group_has r kinds.GroupWithoutZone g ≡ true)
IsTrueFinding r resolvers row found.NodeZoneWithoutChild =
    IsOfZone r row (λ z. zone_has r kinds.NodeZoneWithoutChild z ≡ true)
IsTrueFinding r resolvers row (found.ZoneBetween above) =
    IsOfZone r row (λ z. (zone_has r kinds.ZoneBetween z ≡ true) × IsOfZone r above (λ p. zone_above r z ≡ Some p))
IsTrueFinding r resolvers row found.ZoneOfStrangeGroup =
    IsOfZone r row (λ z. zone_has r kinds.ZoneOfStrangeGroup z ≡ true)
IsTrueFinding r resolvers row (found.SiteInOtherRegion before behind) =
    IsOfSite r row (λ s. (site_has r resolvers kinds.SiteInOtherRegion s ≡ true)
    × (IsOfSite r before (λ a. is_next r a s ≡ true) × IsOfSite r behind (λ b. is_next r s b ≡ true)))

-- the same of a warning
abbrev pub IsTrueWarning : Register → List Locator → Warning → Type 0
IsTrueWarning r resolvers w = IsTrueFinding r resolvers w.row w.finding
