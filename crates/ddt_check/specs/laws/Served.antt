-- The zones of a locator's group: in an accepted register a locator belongs to one group.
use Rattle.std.proofs.Common.{◌≡◌, ◌<◌, Bool, true, false, ◌||◌, ◌==◌, List, [], ◌∷◌, length, Option, Some, None, refl, ap, subst, ◌∙◌, inl, inr}
use Rattle.std.specs.Prelude.{not, nat_lt, ◌&&◌}
use Rattle.std.specs.List.{filter}
use Rattle.std.specs.Option.{option_map_or}
use Rattle.std.proofs.lemmas.Bool.{false≢true, both_ways, or_parts, or_cases, false_from_ne_true}
use Rattle.ddt_path.specs.declared.locator.Locator.{Locator}
use Rattle.ddt_path.specs.Locators.{is_same_locator, lists, are_distinct}
use Rattle.ddt_register.specs.declared.zone.Zone.{Zone}
use Rattle.ddt_register.specs.declared.group.Group.{Group}
use Rattle.ddt_register.specs.declared.register.Register.{Register}
use Rattle.ddt_check.specs.declared.fault.Rule.TheVariants as rules
use Rattle.ddt_path.specs.Names.{is_same_name}
use Rattle.ddt_check.specs.Zones.{group_named, locators_of, served_zones}
use Rattle.ddt_check.specs.Rules.{IsAccepted, share, has_wrong_locators}
use Rattle.ddt_check.specs.Zones.{is_served_by}
use Rattle.ddt_path.specs.laws.Member.{IsIn, fails_at, found_in, found_passes}
use Rattle.ddt_register.specs.laws.Rising.{rule_kept, one_row}
use Rattle.ddt_register.specs.laws.Rising.{groups_rise, earlier_fails}
use Rattle.ddt_check.specs.laws.Kept.{group_of_zone}
use Rattle.ddt_path.specs.laws.Locator.{same_locator}
use Rattle.ddt_path.specs.laws.Filter.{filter_same}

unshared_fails : (ls ms : List Locator) (l : Locator) → share ls ms ≡ false → lists ls l ≡ true → lists ms l ≡ true → ⊥
unshared_fails [] ms l e here there = false≢true here
unshared_fails (k ∷ ls) ms l e here there =
    let p = or_parts (lists ms k) (share ls ms) e in
    elim (or_cases (is_same_locator k l) (lists ls l) here) [
      | inl same ↦ both_ways (lists ms k) p.0 (ap (lists ms) (same_locator k l same) ∙ there)
      | inr later ↦ unshared_fails ls ms l p.1 later there
    ]

unshared : (r : Register) → IsAccepted r → (g h : Group) → IsIn g r.groups → IsIn h r.groups → g.row < h.row → share g.locators h.locators ≡ false
unshared r accepted g h j k lt =
    let e = rule_kept (λ (i : Group). i.row) (has_wrong_locators r) r.groups (accepted rules.Locators) h k in
    let p = or_parts (length h.locators == 0 || nat_lt 8 (length h.locators)) _ e in
    let q = or_parts (not (are_distinct h.locators)) _ p.1 in
    earlier_fails g.row h.row _ lt (fails_at (λ (y : Group). nat_lt y.row h.row && share y.locators h.locators) r.groups g q.1 j)

pub one_group : (r : Register) → IsAccepted r → (g h : Group) (l : Locator) → IsIn g r.groups → IsIn h r.groups → lists g.locators l ≡ true → lists h.locators l ≡ true → h ≡ g
one_group r accepted g h l j k mine other =
    elim (one_row (λ (i : Group). i.row) r.groups 0 h g (groups_rise r) k j) [
      | inl one ↦ one
      | inr apart ↦ elim apart [
        | inl lt ↦ absurd (unshared_fails h.locators g.locators l (unshared r accepted h g k j lt) other mine)
        | inr gt ↦ absurd (unshared_fails g.locators h.locators l (unshared r accepted g h j k gt) mine other)
      ]
    ]

-- a zone is served at the locators of its group alone
pub locators_of_zone : (r : Register) → IsAccepted r → (g : Group) (z : Zone) → IsIn g r.groups → is_served_by g z ≡ true → locators_of r z.group ≡ g.locators
locators_of_zone r accepted g z j served = ap (λ (found : Option Group). option_map_or (λ (h : Group). h.locators) found []) (group_of_zone r accepted g z j served)

served_alone : (r : Register) → IsAccepted r → (g : Group) (l : Locator) → IsIn g r.groups → lists g.locators l ≡ true → (z : Zone) (found : Option Group) → group_named r z.group ≡ found → is_served_by g z ≡ false
    → lists (option_map_or (λ (h : Group). h.locators) found []) l ≡ false
served_alone r accepted g l j mine z None e other = refl
served_alone r accepted g l j mine z (Some h) e other =
    false_from_ne_true (lists h.locators l) (λ theirs.
    let one = one_group r accepted g h l j (found_in (λ (i : Group). is_same_name i.name z.group) r.groups h e) mine theirs in
    both_ways (is_served_by g z) other (subst (λ (i : Group). is_served_by i z ≡ true) one (found_passes (λ (i : Group). is_same_name i.name z.group) r.groups h e)))

is_served : (r : Register) → IsAccepted r → (g : Group) (l : Locator) → IsIn g r.groups → lists g.locators l ≡ true → (z : Zone) (b : Bool) → is_served_by g z ≡ b → lists (locators_of r z.group) l ≡ b
is_served r accepted g l j mine z true e = ap (λ (ls : List Locator). lists ls l) (locators_of_zone r accepted g z j e) ∙ mine
is_served r accepted g l j mine z false e = served_alone r accepted g l j mine z (group_named r z.group) refl e

pub group_serves : (r : Register) → IsAccepted r → (g : Group) (l : Locator) → IsIn g r.groups → lists g.locators l ≡ true → served_zones r l ≡ filter (is_served_by g) r.zones
group_serves r accepted g l j mine = filter_same (λ (z : Zone). lists (locators_of r z.group) l) (is_served_by g) r.zones (λ z k. is_served r accepted g l j mine z (is_served_by g z) refl)
