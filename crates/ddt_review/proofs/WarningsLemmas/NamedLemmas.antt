-- What a finding names is what the register has.
use Rattle.std.proofs.Common.{◌≡◌, ℕ, Bool, true, false, ◌==◌, List, [], ◌∷◌, ◌++◌, Option, Some, refl, sym, ap, ◌∙◌, subst}
use Rattle.std.specs.Prelude.{◌&&◌, All, Contains, IfSome}
use Rattle.std.specs.Bool.{then_some}
use Rattle.std.proofs.lemmas.Bool.{and_parts, eqb-true}
use Rattle.std.proofs.lemmas.List.Elements.{All-same, All-push}
use Rattle.ddt_path.specs.declared.locator.Locator.{Locator}
use Rattle.ddt_path.specs.Locators.{lists}
use Rattle.ddt_path.specs.declared.matches.Preference.TheVariants.{Longest}
use Rattle.ddt_path.specs.laws.Member.{any_in, contained, found_in}
use Rattle.ddt_path.specs.laws.Matching.{best_member}
use Rattle.ddt_register.specs.declared.zone.Zone.{Zone}
use Rattle.ddt_register.specs.declared.site.Site.{Site}
use Rattle.ddt_register.specs.declared.group.Group.{Group}
use Rattle.ddt_register.specs.declared.register.Register.{Register}
use Rattle.ddt_check.specs.Zones.{is_direct_child}
use Rattle.ddt_check.specs.laws.Zone.{site_prefix}
use Rattle.ddt_review.specs.declared.warnings.kind.Kind.{Kind}
use Rattle.ddt_review.specs.declared.warnings.warning.Finding.{Finding}
use Rattle.ddt_review.specs.declared.warnings.warning.Finding.TheVariants as found
use Rattle.ddt_review.specs.declared.warnings.warning.Warning.{Warning}
use Rattle.ddt_review.specs.Warnings.Found.{IsWarningFound, IsReasoned, IsOfServer, IsOfSiteOver, AreNeighbours}
use Rattle.ddt_review.specs.Warnings.Named.{IsOfGroup, IsOfSite, IsOfZone, IsFirst, IsTrueFinding, IsTrueWarning}
use Rattle.ddt_review.specs.Warnings.UnreachableReason.{is_unreachable}
use Rattle.ddt_review.specs.Warnings.Warnings.{eid_path, is_inside_eids, is_repeated, is_server, is_inside_site, zone_above, is_zone_between, is_in_other_region}

-- a finding that is given if a test holds
pub then_so : (P : Finding → Type 0) (b : Bool) (f : Finding) (result : Option Finding) → result ≡ then_some b f
    → (b ≡ true → P f) → IfSome result P
then_so P true f result is so = subst (λ (o : Option Finding). IfSome o P) (sym is) (so refl)
then_so P false f result is so = subst (λ (o : Option Finding). IfSome o P) (sym is) tt

-- a finding that is given if a test holds, of an item that has the warning
pub then_found : (P : Finding → Type 0) (b has : Bool) (kind : Kind) (f : Finding) (result : Option Finding)
    → result ≡ then_some b f → IsWarningFound has kind result → (has ≡ true → P f) → IfSome result P
then_found P b has kind f result is told so =
    then_so P b f result is (λ e.
    so (subst (IsWarningFound has kind) (is ∙ ap (λ (c : Bool). then_some c f) e) told).0)

module _ (r : Register) (known : List Locator) where
  abbrev True : ℕ → Finding → Type 0
  True row f = IsTrueFinding r known row f

  -- ---- of a list of warnings

  -- one warning more
  pub true_more : (ws vs : List Warning) (w : Warning) (row : ℕ) → vs ≡ ws ++ w ∷ [] → w.row ≡ row → True row w.finding
      → All (IsTrueWarning r known) ws → All (IsTrueWarning r known) vs
  true_more ws vs w row is own named all =
      All-same (IsTrueWarning r known) vs (ws ++ w ∷ []) is
      (All-push (IsTrueWarning r known) ws w all (subst (λ (n : ℕ). True n w.finding) (sym own) named))

  -- ---- of the group, the site and the zone in a row

  pub of_group : (Fact : Group → Type 0) (g : Group) → Contains r.groups g → Fact g → IsOfGroup r g.row Fact
  of_group Fact g k fact = record { item = g; member = k; in_row = refl; fact = fact }

  pub of_site : (Fact : Site → Type 0) (s : Site) → Contains r.sites s → Fact s → IsOfSite r s.row Fact
  of_site Fact s k fact = record { item = s; member = k; in_row = refl; fact = fact }

  pub of_zone : (Fact : Zone → Type 0) (z : Zone) → Contains r.zones z → Fact z → IsOfZone r z.row Fact
  of_zone Fact z k fact = record { item = z; member = k; in_row = refl; fact = fact }

  -- ---- at the first locator

  pub unreachable_group : (g : Group) → Contains r.groups g → (l : Locator) (f : Finding)
      → IsFirst (is_unreachable r) g.locators l → IsReasoned found.UnreachableLocator l f → True g.row f
  unreachable_group g k l f first named =
      subst (True g.row) (sym named.2) (of_group _ g k (first, named.1))

  pub inside_eids : (g : Group) → Contains r.groups g → (l : Locator) (f : Finding)
      → IsFirst (is_inside_eids r) g.locators l → IsOfSiteOver r l f → True g.row f
  inside_eids g k l f first named =
      let s = named.0 in
      let member = (best_member Longest site_prefix (eid_path l) r.sites s named.1).0 in
      subst (True g.row) (sym named.2) (of_group _ g k first, of_site _ s (contained r.sites s member) named.1)

  pub unreachable_site : (s : Site) → Contains r.sites s → (l : Locator) (f : Finding)
      → IsFirst (is_unreachable r) s.etrs l → IsReasoned found.UnreachableEtr l f → True s.row f
  unreachable_site s k l f first named =
      subst (True s.row) (sym named.2) (of_site _ s k (first, named.1))

  pub repeated : (s : Site) → Contains r.sites s → (l : Locator) (f : Finding)
      → IsFirst (is_repeated s.etrs) s.etrs l → f ≡ found.RepeatedEtr l → True s.row f
  repeated s k l f first named = subst (True s.row) (sym named) (of_site _ s k first)

  pub of_resolver : (s : Site) → Contains r.sites s → (l : Locator) (f : Finding)
      → IsFirst (lists known) s.etrs l → f ≡ found.EtrIsResolver l → True s.row f
  of_resolver s k l f first named = subst (True s.row) (sym named) (of_site _ s k first)

  pub inside_site : (s : Site) → Contains r.sites s → (l : Locator) (f : Finding)
      → IsFirst (is_inside_site s) s.etrs l → f ≡ found.EtrInsideSite l → True s.row f
  inside_site s k l f first named = subst (True s.row) (sym named) (of_site _ s k first)

  pub of_server : (s : Site) → Contains r.sites s → (l : Locator) (f : Finding)
      → IsFirst (is_server r) s.etrs l → IsOfServer r l f → True s.row f
  of_server s k l f first named =
      let g = any_in (λ (g : Group). g.row == named.0 && lists g.locators l) r.groups named.1 in
      let p = and_parts (g.0.row == named.0) (lists g.0.locators l) g.2 in
      subst (True s.row) (sym named.2) (
        of_site _ s k first,
        record { item = g.0; member = contained r.groups g.0 g.1; in_row = eqb-true g.0.row named.0 p.0; fact = p.1 },
      )

  -- ---- beside the zone and the site

  pub between : (z p : Zone) → Contains r.zones z → zone_above r z ≡ Some p → is_zone_between r z ≡ true
      → True z.row (found.ZoneBetween p.row)
  between z p k up is =
      of_zone _ z k (is, of_zone _ p (contained r.zones p (found_in (λ (q : Zone). is_direct_child r q z) r.zones p up)) up)

  pub beside : (s a b : Site) → Contains r.sites s → AreNeighbours r s a b → is_in_other_region r s ≡ true
      → True s.row (found.SiteInOtherRegion a.row b.row)
  beside s a b k near is =
      of_site _ s k (is, (of_site _ a near.before_in near.before, of_site _ b near.behind_in near.behind))
