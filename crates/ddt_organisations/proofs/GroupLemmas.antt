-- The group of a zone, and the same group in a joined register.
use Rattle.std.proofs.Common.{◌≡◌, ℕ, List, [], ◌∷◌, ◌++◌, map, Option, Some, None, refl, sym, ap, subst, inl, inr}
use Rattle.std.specs.List.{filter}
use Rattle.std.specs.Option.{option_map}
use Rattle.std.proofs.lemmas.Option.{same_Some}
use Rattle.ddt_path.specs.Names.{is_same_name}
use Rattle.ddt_path.specs.laws.Cover.{same_path}
use Rattle.ddt_path.specs.laws.Member.{IsIn, in_map, map_in, found_in, found_passes}
use Rattle.ddt_register.specs.declared.zone.Zone.{Zone}
use Rattle.ddt_register.specs.declared.group.Group.{Group}
use Rattle.ddt_register.specs.declared.register.Register.{Register}
use Rattle.ddt_check.specs.Zones.{group_named}
use Rattle.ddt_config.specs.Table.{Outline}
use Rattle.ddt_compile.specs.GroupConfig.{group_config, config_named}
use Rattle.ddt_organisations.specs.Seam.Joined.{zone_text, group_text, lacks_zone, lacks_group, IsJoined}

pub in_left_part : {A : Type 0} (xs ys : List A) (a : A) → IsIn a xs → IsIn a (xs ++ ys)
in_left_part [] ys a k = absurd k
in_left_part (x ∷ xs) ys a (inl same) = inl same
in_left_part (x ∷ xs) ys a (inr later) = inr (in_left_part xs ys a later)

-- the group that is found by a name has that name
pub named : (r : Register) (name : List ℕ) (g : Group) → group_named r name ≡ Some g → g.name ≡ name
named r name g e = same_path g.name name (found_passes (λ (h : Group). is_same_name h.name name) r.groups g e)

pub is_group : (r : Register) (name : List ℕ) (g : Group) → group_named r name ≡ Some g → IsIn g r.groups
is_group r name g e = found_in (λ (h : Group). is_same_name h.name name) r.groups g e

config_case : (r : Register) (found : Option Group) (c : Outline) → option_map (group_config r) found ≡ Some c
    → (g : Group) × (found ≡ Some g) × (c ≡ group_config r g)
config_case r None c e = absurd cc
config_case r (Some g) c e = (g, refl, sym (same_Some (group_config r g) c e))

-- the configuration of a name is that of the group of the name
pub config_is : (r : Register) (name : List ℕ) (c : Outline) → config_named r name ≡ Some c
    → (g : Group) × (group_named r name ≡ Some g) × (c ≡ group_config r g)
config_is r name c e = config_case r (group_named r name) c e

-- ---- the rows of ours are in the joined register

module _ (ours theirs joined : Register) (both : IsJoined ours theirs joined) where
  pub zone_there : (z : Zone) → IsIn z ours.zones
      → (y : Zone) × IsIn y joined.zones × (y.prefix ≡ z.prefix) × (y.group ≡ z.group)
  zone_there z k =
      let there = in_left_part (map zone_text ours.zones) (map zone_text (filter (lacks_zone ours) theirs.zones))
      (zone_text z) (map_in zone_text ours.zones z k) in
      let found = in_map zone_text joined.zones (zone_text z) (subst (IsIn (zone_text z)) (sym both.zones) there) in (
        found.0,
        found.1,
        ap (λ (t : Zone). t.prefix) (sym found.2),
        ap (λ (t : Zone). t.group) (sym found.2),
      )

  pub group_there : (g : Group) → IsIn g ours.groups
      → (h : Group) × IsIn h joined.groups × (h.name ≡ g.name) × (h.locators ≡ g.locators)
  group_there g k =
      let there = in_left_part (map group_text ours.groups) (map group_text (filter (lacks_group ours) theirs.groups))
      (group_text g) (map_in group_text ours.groups g k) in
      let found = in_map group_text joined.groups (group_text g) (subst (IsIn (group_text g)) (sym both.groups) there) in (
        found.0,
        found.1,
        ap (λ (t : Group). t.name) (sym found.2),
        ap (λ (t : Group). t.locators) (sym found.2),
      )
