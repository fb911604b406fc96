-- What two registers have under the prefix of a zone or a site or the name of a group, and where they differ.
use Rattle.std.specs.Prelude.{◌≡◌, ◌↔◌, ℕ, Bool, true, false, ◌&&◌, List, map, find, Option, None, Some, Contains}
use Rattle.std.specs.List.Sorted.{IsStrictlySortedBy}
use Rattle.std.specs.Option.{option_map}
use Rattle.std.specs.Ordering.{nat_cmp}
use Rattle.std.specs.Cmp.Lexicographic.{slice_cmp}
use Rattle.ddt_path.specs.declared.locator.Locator.{Locator}
use Rattle.ddt_path.specs.Covers.{is_same_path}
use Rattle.ddt_path.specs.Names.{is_same_name}
use Rattle.ddt_register.specs.declared.register.Register.{Register}
use Rattle.ddt_check.specs.Zones.{is_same_role, group_named}
use Rattle.ddt_plan.specs.Changes.{are_same_servers}
use Rattle.ddt_plan.specs.declared.items.ServingGroup.{ServingGroup}
use Rattle.ddt_plan.specs.declared.items.GroupServers.{GroupServers}
use Rattle.ddt_plan.specs.declared.items.ItemChange.{ItemChange}
use Rattle.ddt_plan.specs.declared.items.ItemChanges.{ItemChanges}

-- The kind of the zone of exactly this prefix, and the group that serves it.
abbrev pub serving_group_at : Register → List ℕ → Option ServingGroup
serving_group_at r p =
    option_map (λ z. record { kind = z.kind; group = z.group }) (find (λ z. is_same_path z.prefix p) r.zones)

-- The ETRs of the site of exactly this prefix, in the order of its row.
abbrev pub etrs_at : Register → List ℕ → Option (List Locator)
etrs_at r p = option_map (λ s. s.etrs) (find (λ s. is_same_path s.prefix p) r.sites)

-- The kind and the locators of the group of a name, in the order of its row.
abbrev pub group_servers_at : Register → List ℕ → Option GroupServers
group_servers_at r name = option_map (λ g. record { kind = g.kind; locators = g.locators }) (group_named r name)

-- the same kind, and the same group
abbrev pub is_same_serving_group : ServingGroup → ServingGroup → Bool
is_same_serving_group a b = is_same_role a.kind b.kind && is_same_name a.group b.group

-- the same kind, and the same locators in the same order
abbrev pub are_same_group_servers : GroupServers → GroupServers → Bool
are_same_group_servers a b = is_same_role a.kind b.kind && are_same_servers a.locators b.locators

-- both are there and the same, or neither is there
abbrev pub is_same_if_any : {V : Type 0} → (V → V → Bool) → Option V → Option V → Bool
is_same_if_any same None None = true
is_same_if_any same None (Some b) = false
is_same_if_any same (Some a) None = false
is_same_if_any same (Some a) (Some b) = same a b

-- Where two registers differ. A key is listed if and only if what they have under it differs, with what each has there:
-- none where it has no item of this key. The keys are in order, none twice.
pub record AreTableChanges {V : Type 0} (same : V → V → Bool) (before after : List ℕ → Option V)
    (changes : List (ItemChange (List ℕ) V)) : Type 0 where
  pub exact : (c : ItemChange (List ℕ) V) → Contains changes c
      ↔ ((c.before ≡ before c.key) × (c.after ≡ after c.key) × (is_same_if_any same c.before c.after ≡ false))
  pub in_order : IsStrictlySortedBy (slice_cmp nat_cmp) (map (λ c. c.key) changes)

-- The zones that are new, are gone, or are served by another group or another kind of servers; the sites that are new,
-- are gone, or have other ETRs; and the groups that are new, are gone, or have another kind or other locators.
pub record AreItemChanges (before after : Register) (changes : ItemChanges) : Type 0 where
  pub zones : AreTableChanges is_same_serving_group (serving_group_at before) (serving_group_at after) changes.zones.items
  pub sites : AreTableChanges are_same_servers (etrs_at before) (etrs_at after) changes.sites.items
  pub groups : AreTableChanges are_same_group_servers (group_servers_at before) (group_servers_at after)
      changes.groups.items
