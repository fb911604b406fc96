-- The root of an accepted register is served; the zone of each identifier, and the group of each locator.
use Rattle.std.proofs.Common.{◌≡◌, ℕ, ◌≤◌, true, false, List, [], length, Some, refl, sym, ap, ◌∙◌, arith, inl, inr}
use Rattle.std.specs.List.{list_any}
use Rattle.std.proofs.lemmas.Bool.{true≢false, false≢true, cond-true, or_parts, cases_lt}
use Rattle.ddt_path.specs.declared.locator.Locator.{Locator}
use Rattle.ddt_path.specs.declared.record.Role.{Role}
use Rattle.ddt_path.specs.declared.record.Role.TheVariants.{Node, Ms}
use Rattle.ddt_path.specs.Locators.{lists}
use Rattle.ddt_path.specs.Names.{is_same_name}
use Rattle.ddt_path.specs.laws.Cover.{same_path, covered_same}
use Rattle.ddt_path.specs.laws.Member.{IsIn, in_contained, contained, found_in, found_passes}
use Rattle.ddt_path.specs.laws.Front.{one_front}
use Rattle.ddt_path.specs.laws.Matching.{best_unbeaten}
use Rattle.ddt_path.specs.declared.matches.Preference.TheVariants.{Longest}
use Rattle.ddt_register.specs.declared.zone.Zone.{Zone}
use Rattle.ddt_register.specs.declared.group.Group.{Group}
use Rattle.ddt_register.specs.declared.register.Register.{Register}
use Rattle.ddt_register.specs.laws.Rising.{rule_kept}
use Rattle.ddt_check.specs.declared.fault.Rule.TheVariants as rules
use Rattle.ddt_check.specs.Zones.{is_ms, zone_of, group_named, locators_of, served_zones, roots}
use Rattle.ddt_check.specs.Rules.{IsAccepted, is_root, is_wrong_root, earlier_zone}
use Rattle.ddt_check.specs.laws.Statements.{IsItsZone, IsRootZone}
use Rattle.ddt_check.specs.laws.Kept.{servers_of_zone, one_zone}
use Rattle.ddt_check.specs.laws.Served.{one_group, group_serves}
use Rattle.ddt_check.specs.laws.Root.{empty_path, some_root, the_root, zone_found}
use Rattle.ddt_check.specs.laws.Zone.{zone_prefix}
use Rattle.ddt_check.proofs.CaseLemmas.{option_cases, in_zone}

is_node : (role : Role) → is_ms role ≡ false → role ≡ Node
is_node Node e = refl
is_node Ms e = absurd (true≢false e)

module _ (r : Register) (accepted : IsAccepted r) where
  root_kind : (z : Zone) → IsIn z r.zones → is_root z ≡ true → z.kind ≡ Node
  root_kind z k e =
      let kept = rule_kept (λ (y : Zone). y.row) (is_wrong_root r) r.zones
      (λ n. sym (cond-true (list_any is_root r.zones) _ _ (some_root r accepted)) ∙ accepted rules.NoRoot n) z k in
      is_node z.kind (or_parts (is_ms z.kind) (earlier_zone r z is_root) (rw e at kept)).0

  pub its_zone : (x : List ℕ) → (z : Zone) × (zone_of r x ≡ Some z) × IsItsZone r x z
  its_zone x =
      let found = zone_found r accepted x in
      let z = found.0 in
      let at_z = in_zone r x z found.1 in (
        z,
        found.1,
        record {
          is_zone = contained r.zones z at_z.0;
          covers_it = at_z.1;
          longest = λ y in_y c.
              let k = in_contained r.zones y in_y in
              let as_long : length y.prefix ≤ length z.prefix =
              best_unbeaten Longest zone_prefix x r.zones z y found.1 k c in
              elim (cases_lt (length y.prefix) (length z.prefix)) [
                | inl lt ↦ inr lt
                | inr ge ↦ inl (one_zone r accepted y z k at_z.0 (one_front y.prefix z.prefix x c at_z.1 (omega arith)))
              ];
        },
      )

  pub root_is_served : (z : Zone) × IsRootZone r z
  root_is_served =
      let root = the_root r accepted in
      let z = root.0 in
      let everything : z.prefix ≡ [] = empty_path z.prefix root.2 in
      let found = zone_found r accepted [] in
      let w = in_zone r [] found.0 found.1 in
      let same : z ≡ found.0 = one_zone r accepted z found.0 root.1 w.0
      (everything ∙ sym (covered_same found.0.prefix [] w.1 (omega arith))) in
      let servers : locators_of r z.group ≡ roots r = rw (found.1, same) in (
        z,
        record {
          is_zone = contained r.zones z root.1;
          is_everything = everything;
          is_of_nodes = root_kind z root.1 root.2;
          its_servers = servers;
          are_servers = rw servers at (servers_of_zone r accepted z root.1);
        },
      )

  -- the group of a locator
  listing_group : (name : List ℕ) (l : Locator) → lists (locators_of r name) l ≡ true
      → (g : Group) × IsIn g r.groups × (g.name ≡ name) × (lists g.locators l ≡ true)
  listing_group name l = option_cases
      (λ ls. lists ls l ≡ true → (g : Group) × IsIn g r.groups × (g.name ≡ name) × (lists g.locators l ≡ true))
      (λ (g : Group). g.locators) [] (group_named r name) (λ e h. absurd (false≢true h)) (λ g e h.
      let test = λ (i : Group). is_same_name i.name name in
      (g, found_in test r.groups g e, same_path g.name name (found_passes test r.groups g e), h))

  pub one_group_of_locator : (y z : Zone) (l : Locator) → lists (locators_of r y.group) l ≡ true
      → lists (locators_of r z.group) l ≡ true → y.group ≡ z.group
  one_group_of_locator y z l here there =
      let g = listing_group y.group l here in
      let h = listing_group z.group l there in
      sym g.2 ∙ ap (λ (i : Group). i.name) (one_group r accepted h.0 g.0 l h.1 g.1 h.3 g.3) ∙ h.2

  pub served_alike : (name : List ℕ) (l k : Locator) → lists (locators_of r name) l ≡ true
      → lists (locators_of r name) k ≡ true → served_zones r l ≡ served_zones r k
  served_alike name l k = option_cases (λ ls. lists ls l ≡ true → lists ls k ≡ true → served_zones r l ≡ served_zones r k)
      (λ (g : Group). g.locators) [] (group_named r name) (λ e h. absurd (false≢true h)) (λ g e h i.
      let j = found_in (λ (g : Group). is_same_name g.name name) r.groups g e in
      group_serves r accepted g l j h ∙ sym (group_serves r accepted g k j i))
