-- A register with the same zones and sites, and with the same groups but for their locators, is accepted like the
-- other, if none of its locators stands twice.
use Rattle.std.proofs.Common.{◌≡◌, ℕ, ◌<◌, Bool, true, false, cond, ◌==◌, ◌&&◌, ◌||◌, List, [], ◌∷◌, length, map, find, Option, Some, None, refl, sym, ap, subst, ◌∙◌, arith, inl, inr}
use Rattle.std.specs.Prelude.{not, nat_lt, is_some}
use Rattle.std.specs.Option.{option_map, option_map_or}
use Rattle.std.specs.List.{list_all, list_any}
use Rattle.std.proofs.lemmas.Simd.{map-map}
use Rattle.std.specs.Cmp.Lexicographic.{pointwise}
use Rattle.std.proofs.lemmas.Bool.{ltb-true, le-ltb, ne_eqb, or_parts, cases_Bool}
use Rattle.ddt_path.specs.declared.locator.Locator.{Locator}
use Rattle.ddt_path.specs.declared.record.Role.{Role}
use Rattle.ddt_path.specs.Locators.{are_distinct}
use Rattle.ddt_path.specs.Names.{is_same_name}
use Rattle.ddt_path.specs.laws.Member.{IsIn, in_map, map_in, none_of, fails_at, list_any-map}
use Rattle.ddt_register.specs.declared.zone.Zone.{Zone}
use Rattle.ddt_register.specs.declared.site.Site.{Site}
use Rattle.ddt_register.specs.Rows.{are_rows, group_rows}
use Rattle.ddt_register.specs.declared.group.Group.{Group}
use Rattle.ddt_register.specs.declared.register.Register.{Register}
use Rattle.ddt_register.specs.laws.Rising.{rule_kept, groups_rise, earlier_fails}
use Rattle.ddt_check.specs.declared.fault.Rule.{Rule}
use Rattle.ddt_check.specs.declared.fault.Rule.TheVariants as rules
use Rattle.ddt_check.specs.Zones.{group_named, is_same_role}
use Rattle.ddt_check.specs.Rules.{IsAccepted, broken, is_of_unknown_group, is_of_other_role, is_duplicate_group, has_wrong_locators, share}
use Rattle.ddt_check.specs.laws.Kept.{server_set}
use Rattle.ddt_deploy.specs.Loopback.Addresses.{is_server_address, server_addresses}
use Rattle.ddt_deploy.specs.Loopback.Moved.{AreOneForOne, kept_of, locators_in}
use Rattle.ddt_deploy.proofs.LoopbackLemmas.AddressLemmas.{addresses_distinct, addresses_may_be}
use Rattle.ddt_deploy.proofs.LoopbackLemmas.MovedLemmas.{count_of_servers, few_servers, one_for_one}
use Rattle.ddt_deploy.proofs.LoopbackLemmas.DistinctLemmas.{distinct_at, distinct_all, unshared_pair}

abbrev Kept : Type 0
Kept = List ℕ × Role × ℕ × ℕ

-- an item that doesn't pass breaks no rule at any row
fails_with : (a b : Bool) → b ≡ false → (a && b) ≡ false
fails_with true b e = e
fails_with false b e = refl

-- ---- what is looked up by name

kept_case : (g : Group) (found : Option Group) (b : Bool)
    → option_map kept_of (cond b (Some g) found) ≡ cond b (Some (kept_of g)) (option_map kept_of found)
kept_case g found true = refl
kept_case g found false = refl

found_kept : (name : List ℕ) (gs : List Group)
    → option_map kept_of (find (λ g. is_same_name g.name name) gs) ≡ find (λ (k : Kept). is_same_name k.0 name)
    (map kept_of gs)
found_kept name [] = refl
found_kept name (g ∷ gs) =
    kept_case g (find (λ (h : Group). is_same_name h.name name) gs) (is_same_name g.name name)
    ∙ ap (λ (found : Option Kept). cond (is_same_name g.name name) (Some (kept_of g)) found) (found_kept name gs)

some_kept : (found : Option Group) → is_some (option_map kept_of found) ≡ is_some found
some_kept None = refl
some_kept (Some g) = refl

role_kept : (kind : Role) (found : Option Group)
    → option_map_or (λ (k : Kept). not (is_same_role k.1 kind)) (option_map kept_of found) false ≡ option_map_or
    (λ g. not (is_same_role g.kind kind)) found false
role_kept kind None = refl
role_kept kind (Some g) = refl

-- ---- the rules

module _ (r s : Register) (zones : s.zones ≡ r.zones) (sites : s.sites ≡ r.sites) (groups : map kept_of s.groups
    ≡ map kept_of r.groups) (apart : are_distinct (locators_in s.groups) ≡ true) (accepted : IsAccepted r) where
  same_named : (name : List ℕ) → option_map kept_of (group_named s name) ≡ option_map kept_of (group_named r name)
  same_named name =
      found_kept name s.groups ∙ ap (find (λ (k : Kept). is_same_name k.0 name)) groups ∙ sym (found_kept name r.groups)

  known : (z : Zone) → is_of_unknown_group s z ≡ is_of_unknown_group r z
  known z = ap not (sym (some_kept (group_named s z.group))
      ∙ ap (λ (k : Option Kept). is_some k) (same_named z.group) ∙ some_kept (group_named r z.group))

  of_role : (z : Zone) → is_of_other_role s z ≡ is_of_other_role r z
  of_role z =
      sym (role_kept z.kind (group_named s z.group))
      ∙ ap (λ (k : Option Kept). option_map_or (λ (k : Kept). not (is_same_role k.1 z.kind)) k false)
      (same_named z.group)
      ∙ role_kept z.kind (group_named r z.group)

  -- the group of the other register that keeps the same
  other : (g : Group) → IsIn g s.groups → (h : Group) × IsIn h r.groups × (kept_of g ≡ kept_of h)
  other g k = in_map kept_of r.groups (kept_of g) (subst (IsIn (kept_of g)) groups (map_in kept_of s.groups g k))

  -- whether some group of an earlier row has a name
  abbrev names_earlier : List Kept → Kept → Bool
  names_earlier all k = list_any (λ (j : Kept). nat_lt j.2 k.2 && pointwise ◌==◌ j.0 k.0) all

  own_name : (g : Group) → IsIn g s.groups → is_duplicate_group s g ≡ false
  own_name g k =
      let h = other g k in
      sym (list_any-map (λ (j : Kept). nat_lt j.2 g.row && pointwise ◌==◌ j.0 g.name) kept_of s.groups)
      ∙ ap (λ (all : List Kept). names_earlier all (kept_of g)) groups
      ∙ ap (λ (k : Kept). names_earlier (map kept_of r.groups) k) h.2
      ∙ list_any-map (λ (j : Kept). nat_lt j.2 h.0.row && pointwise ◌==◌ j.0 h.0.name) kept_of r.groups
      ∙ rule_kept (λ (i : Group). i.row) (is_duplicate_group r) r.groups (accepted rules.DuplicateGroup) h.0 h.1

  earlier_unshared : (h g : Group) → IsIn h s.groups → IsIn g s.groups → (b : Bool) → nat_lt h.row g.row ≡ b
      → (b && share h.locators g.locators) ≡ false
  earlier_unshared h g j k true e = unshared_pair s.groups 0 h g (groups_rise s) apart j k (ltb-true h.row g.row e)
  earlier_unshared h g j k false e = refl

  own_locators : (g : Group) → IsIn g s.groups → has_wrong_locators s g ≡ false
  own_locators g k =
      let h = other g k in
      let few = (server_set r accepted h.0 h.1).0 in
      let many : length g.locators ≡ length h.0.locators = ap (λ (k : Kept). k.3) h.2 in
      let some : (length g.locators == 0) ≡ false = ne_eqb (length g.locators) 0 (λ none. absurd (omega
      (arith, few.0))) in
      let most : nat_lt 8 (length g.locators) ≡ false = le-ltb 8 (length g.locators) (omega (arith, few.1)) in
      rw (some, most, distinct_at s.groups g apart k)
      (none_of (λ (h : Group). nat_lt h.row g.row && share h.locators g.locators) s.groups
      (λ h j. earlier_unshared h g j k (nat_lt h.row g.row) refl))

  pub still_accepted : IsAccepted s
  still_accepted rules.UnknownGroup row =
      none_of (λ (z : Zone). z.row == row && is_of_unknown_group s z) s.zones (λ z k. fails_with (z.row == row)
      (is_of_unknown_group s z)
      (known z ∙ rule_kept (λ (z : Zone). z.row) (is_of_unknown_group r) r.zones (accepted rules.UnknownGroup) z
      (subst (IsIn z) zones k)))
  still_accepted rules.Role row =
      none_of (λ (z : Zone). z.row == row && is_of_other_role s z) s.zones (λ z k. fails_with (z.row == row)
      (is_of_other_role s z)
      (of_role z ∙ rule_kept (λ (z : Zone). z.row) (is_of_other_role r) r.zones (accepted rules.Role) z (subst
      (IsIn z) zones k)))
  still_accepted rules.Locators row =
      none_of (λ (g : Group). g.row == row && has_wrong_locators s g) s.groups
      (λ g k. fails_with (g.row == row) (has_wrong_locators s g) (own_locators g k))
  still_accepted rules.DuplicateGroup row =
      none_of (λ (g : Group). g.row == row && is_duplicate_group s g) s.groups
      (λ g k. fails_with (g.row == row) (is_duplicate_group s g) (own_name g k))
  -- the other rules look at no group
  still_accepted other row = simp (sites, zones) (accepted other row)

-- in an accepted register no locator stands twice
pub all_distinct : (r : Register) → IsAccepted r → are_distinct (locators_in r.groups) ≡ true
all_distinct r accepted =
    distinct_all r.groups 0 (groups_rise r) (λ g k. (server_set r accepted g k).1) (λ h g j k lt.
    let e = rule_kept (λ (i : Group). i.row) (has_wrong_locators r) r.groups (accepted rules.Locators) g k in
    let p = or_parts (length g.locators == 0 || nat_lt 8 (length g.locators)) _ e in
    let q = or_parts (not (are_distinct g.locators)) _ p.1 in
    earlier_fails h.row g.row _ lt (fails_at (λ
    (i : Group). nat_lt i.row g.row && share i.locators g.locators) r.groups h q.1 j))

-- ---- the register whose servers have other addresses

rows_of_kept : (gs : List Group) → map (λ (k : Kept). k.2) (map kept_of gs) ≡ group_rows gs
rows_of_kept gs = map-map (λ (k : Kept). k.2) kept_of gs

-- the same zones and sites, with groups of the same rows, are a register
pub same_rows : (r : Register) (zones : List Zone) (sites : List Site) (groups : List Group) → zones ≡ r.zones
    → sites ≡ r.sites
    → map kept_of groups ≡ map kept_of r.groups → are_rows zones sites groups ≡ true
same_rows r zones sites groups zs ss kept =
    let rows : group_rows groups ≡ group_rows r.groups =
    sym (rows_of_kept groups) ∙ ap (map (λ (k : Kept). k.2)) kept ∙ rows_of_kept r.groups in
    rw (zs, ss, rows) r.rows

module _ (r s : Register) (accepted : IsAccepted r) (zones : s.zones ≡ r.zones) (sites : s.sites ≡ r.sites)
    (groups : map kept_of s.groups ≡ map kept_of r.groups) (located : locators_in s.groups ≡ server_addresses
    (length (locators_in r.groups))) where
  distinct : are_distinct (locators_in s.groups) ≡ true
  distinct = ap are_distinct located ∙ addresses_distinct 0 (length (locators_in r.groups))

  pub moved_one_for_one : AreOneForOne (locators_in r.groups) (locators_in s.groups)
  moved_one_for_one =
      one_for_one (locators_in r.groups) (locators_in s.groups) (all_distinct r accepted) distinct
      (ap length located ∙ count_of_servers (length (locators_in r.groups)))

  pub moved_may_be : list_all is_server_address (locators_in s.groups) ≡ true
  moved_may_be = ap (list_all is_server_address) located
      ∙ addresses_may_be (length (locators_in r.groups)) (few_servers r accepted)

  pub moved_accepted : IsAccepted s
  moved_accepted = still_accepted r s zones sites groups distinct accepted
