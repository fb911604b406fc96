-- What each rule gives of the items of an accepted register: zones and sites of their own prefixes, groups of their own
-- names with 1 to 8 locators, and a group for each zone, of the zone's kind.
use Rattle.std.proofs.Common.{◌≡◌, ℕ, ◌<◌, ◌≤◌, true, false, not, ◌&&◌, ◌||◌, ◌==◌, List, [], ◌∷◌, length, Option, Some, None, refl, sym, ap, subst, ◌∙◌, arith, inl, inr}
use Rattle.std.specs.Prelude.{nat_lt, is_some, slice_get}
use Rattle.std.specs.Option.{option_map_or}
use Rattle.std.proofs.lemmas.Bool.{true≢false, or_parts, ltb-false, eqb-false, not-false, both_ways}
use Rattle.ddt_path.specs.declared.locator.Locator.{Locator}
use Rattle.ddt_path.specs.declared.record.Role.{Role}
use Rattle.ddt_path.specs.declared.record.Role.TheVariants.{Node, Ms}
use Rattle.ddt_path.specs.Locators.{are_distinct}
use Rattle.ddt_path.specs.Covers.{is_same_path}
use Rattle.ddt_register.specs.declared.zone.Zone.{Zone}
use Rattle.ddt_register.specs.declared.site.Site.{Site}
use Rattle.ddt_register.specs.declared.group.Group.{Group}
use Rattle.ddt_register.specs.declared.register.Register.{Register}
use Rattle.ddt_check.specs.declared.fault.Rule.TheVariants as rules
use Rattle.ddt_path.specs.Names.{is_same_name}
use Rattle.ddt_check.specs.Zones.{is_same_role, group_named, locators_of, first_locator, is_served_by}
use Rattle.ddt_check.specs.Rules.{IsAccepted, broken, is_duplicate_zone, is_duplicate_site, is_of_unknown_group, is_of_other_role, has_wrong_locators, has_too_many_etrs, is_duplicate_group}
use Rattle.ddt_check.specs.laws.Statements.{AreServers, IsItsGroup}
use Rattle.ddt_path.specs.laws.Member.{IsIn, contained, fails_at, found_in}
use Rattle.ddt_path.specs.laws.Cover.{same_path, path_itself}
use Rattle.ddt_register.specs.laws.Rising.{rule_kept, one_row, zones_rise, sites_rise, earlier_fails}
use Rattle.ddt_register.specs.laws.RowOrder.{found_first, groups_up}

-- where no two zones have one prefix, whatever the other rules say
module _ (r : Register) (single : (n : ℕ) → broken r rules.DuplicateZone n ≡ false) (a b : Zone) (j : IsIn a r.zones) (k : IsIn b r.zones) where
  own_prefix_if : a.row < b.row → is_same_path a.prefix b.prefix ≡ false
  own_prefix_if lt =
      let e = rule_kept (λ (z : Zone). z.row) (is_duplicate_zone r) r.zones single b k in
      earlier_fails a.row b.row _ lt (fails_at (λ (y : Zone). nat_lt y.row b.row && is_same_path y.prefix b.prefix) r.zones a e j)

module _ (r : Register) (single : (n : ℕ) → broken r rules.DuplicateZone n ≡ false) where
  pub one_zone_if : (a b : Zone) → IsIn a r.zones → IsIn b r.zones → a.prefix ≡ b.prefix → a ≡ b
  one_zone_if a b j k same =
      elim (one_row (λ (z : Zone). z.row) r.zones 0 a b (zones_rise r) j k) [
        | inl one ↦ one
        | inr (inl lt) ↦ absurd (both_ways (is_same_path a.prefix b.prefix) (own_prefix_if r single a b j k lt) (path_itself a.prefix b.prefix same))
        | inr (inr gt) ↦ absurd (both_ways (is_same_path b.prefix a.prefix) (own_prefix_if r single b a k j gt) (path_itself b.prefix a.prefix (sym same)))
      ]

pub own_prefix : (r : Register) → IsAccepted r → (a b : Zone) → IsIn a r.zones → IsIn b r.zones → a.row < b.row → is_same_path a.prefix b.prefix ≡ false
own_prefix r accepted a b j k lt = own_prefix_if r (accepted rules.DuplicateZone) a b j k lt

pub one_zone : (r : Register) → IsAccepted r → (a b : Zone) → IsIn a r.zones → IsIn b r.zones → a.prefix ≡ b.prefix → a ≡ b
one_zone r accepted a b j k same = one_zone_if r (accepted rules.DuplicateZone) a b j k same

pub own_name : (r : Register) → IsAccepted r → (g h : Group) → IsIn g r.groups → IsIn h r.groups → g.row < h.row → is_same_name g.name h.name ≡ false
own_name r accepted g h j k lt =
    let e = rule_kept (λ (i : Group). i.row) (is_duplicate_group r) r.groups (accepted rules.DuplicateGroup) h k in
    earlier_fails g.row h.row _ lt (fails_at (λ (i : Group). nat_lt i.row h.row && is_same_name i.name h.name) r.groups g e j)

pub own_site : (r : Register) → IsAccepted r → (a b : Site) → IsIn a r.sites → IsIn b r.sites → a.row < b.row
    → is_same_path a.prefix b.prefix ≡ false
own_site r accepted a b j k lt =
    let e = rule_kept (λ (s : Site). s.row) (is_duplicate_site r) r.sites (accepted rules.DuplicateSite) b k in
    let test = λ (t : Site). nat_lt t.row b.row && is_same_path t.prefix b.prefix in
    earlier_fails a.row b.row _ lt (fails_at test r.sites a e j)

-- two sites of one prefix are one
pub one_site : (r : Register) → IsAccepted r → (a b : Site) → IsIn a r.sites → IsIn b r.sites → a.prefix ≡ b.prefix → a ≡ b
one_site r accepted a b j k same =
    elim (one_row (λ (s : Site). s.row) r.sites 0 a b (sites_rise r) j k) [
      | inl one ↦ one
      | inr (inl lt) ↦ absurd (both_ways (is_same_path a.prefix b.prefix) (own_site r accepted a b j k lt) (path_itself a.prefix b.prefix same))
      | inr (inr gt) ↦ absurd (both_ways (is_same_path b.prefix a.prefix) (own_site r accepted b a k j gt) (path_itself b.prefix a.prefix (sym same)))
    ]

pub few_etrs : (r : Register) → IsAccepted r → (s : Site) → IsIn s r.sites → length s.etrs ≤ 8
few_etrs r accepted s k = ltb-false 8 (length s.etrs) (rule_kept (λ (t : Site). t.row) has_too_many_etrs r.sites (accepted rules.TooManyEtrs) s k)

-- a group has 1 to 8 locators, each once
pub server_set : (r : Register) → IsAccepted r → (g : Group) → IsIn g r.groups → AreServers g.locators × (are_distinct g.locators ≡ true)
server_set r accepted g k =
    let e = rule_kept (λ (h : Group). h.row) (has_wrong_locators r) r.groups (accepted rules.Locators) g k in
    let p = or_parts (length g.locators == 0 || nat_lt 8 (length g.locators)) _ e in
    let q = or_parts (length g.locators == 0) (nat_lt 8 (length g.locators)) p.0 in
    let some = eqb-false (length g.locators) 0 q.0 in
    ((omega arith, ltb-false 8 (length g.locators) q.1), not-false (are_distinct g.locators) (or_parts (not (are_distinct g.locators)) _ p.1).0)

-- a name that no group has comes with no locators
pub few_locators : (r : Register) → IsAccepted r → (name : List ℕ) → length (locators_of r name) ≤ 8
few_locators r accepted name = go (group_named r name) refl
  where
    go : (found : Option Group) → group_named r name ≡ found → length (option_map_or (λ (g : Group). g.locators) found []) ≤ 8
    go None e = omega arith
    go (Some g) e = (server_set r accepted g (found_in (λ (h : Group). is_same_name h.name name) r.groups g e)).0.1

-- each zone's group is there
pub has_group : (r : Register) → IsAccepted r → (z : Zone) → IsIn z r.zones → (g : Group) × IsIn g r.groups × (group_named r z.group ≡ Some g)
has_group r accepted z k = go (group_named r z.group) refl (rule_kept (λ (y : Zone). y.row) (is_of_unknown_group r) r.zones (accepted rules.UnknownGroup) z k)
  where
    go : (found : Option Group) → group_named r z.group ≡ found → not (is_some found) ≡ false → (g : Group) × IsIn g r.groups × (group_named r z.group ≡ Some g)
    go None e some = absurd (true≢false some)
    go (Some g) e some = (g, found_in (λ (h : Group). is_same_name h.name z.group) r.groups g e, e)

pub has_servers : (r : Register) → IsAccepted r → (z : Zone) → IsIn z r.zones → (g : Group) × IsItsGroup r z g
has_servers r accepted z k =
    let g = has_group r accepted z k in (
      g.0,
      record {
        is_group = contained r.groups g.0 g.1;
        its_group = g.2;
        its_servers = ap (λ (found : Option Group). option_map_or (λ (h : Group). h.locators) found []) g.2;
        are_servers = (server_set r accepted g.0 g.1).0;
      },
    )

pub servers_of_zone : (r : Register) → IsAccepted r → (z : Zone) → IsIn z r.zones → AreServers (locators_of r z.group)
servers_of_zone r accepted z k = let g = has_servers r accepted z k in subst AreServers (sym g.1.its_servers) g.1.are_servers

pub starts_with_first : (r : Register) → IsAccepted r → (g : Group) → IsIn g r.groups → slice_get g.locators 0 ≡ Some (first_locator g.locators)
starts_with_first r accepted g k = go g.locators (server_set r accepted g k).0.0
  where
    go : (ls : List Locator) → 0 < length ls → slice_get ls 0 ≡ Some (first_locator ls)
    go [] some = absurd (omega arith)
    go (l ∷ ls) some = refl

-- the zones of a group
pub group_of_zone : (r : Register) → IsAccepted r → (g : Group) (z : Zone) → IsIn g r.groups → is_served_by g z ≡ true → group_named r z.group ≡ Some g
group_of_zone r accepted g z k served =
    let e = rule_kept (λ (h : Group). h.row) (is_duplicate_group r) r.groups (accepted rules.DuplicateGroup) g k in
    found_first (λ (h : Group). h.row) (λ (h : Group). is_same_name h.name z.group) r.groups g (groups_up r) k served
    (λ h j lt. ap (is_same_name h.name) (sym (same_path g.name z.group served)) ∙ earlier_fails h.row g.row _ lt (fails_at (λ (y : Group). nat_lt y.row g.row && is_same_name y.name g.name) r.groups h e j))

one_role : (a b : Role) → not (is_same_role a b) ≡ false → a ≡ b
one_role Node Node e = refl
one_role Ms Ms e = refl
one_role Node Ms e = absurd (true≢false e)
one_role Ms Node e = absurd (true≢false e)

pub role_of_zone : (r : Register) → IsAccepted r → (g : Group) (z : Zone) → IsIn g r.groups → IsIn z r.zones → is_served_by g z ≡ true → g.kind ≡ z.kind
role_of_zone r accepted g z j k served =
    let e = rule_kept (λ (y : Zone). y.row) (is_of_other_role r) r.zones (accepted rules.Role) z k in
    one_role g.kind z.kind (rw (group_of_zone r accepted g z j served) at e)
