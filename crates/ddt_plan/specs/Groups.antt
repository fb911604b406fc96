-- When the configurations of two groups are alike, and which groups change from one register to another. The order of
-- what a configuration holds, which is that of the register's rows, is no part of it (RFC 8111, section 4).
use Rattle.std.specs.Prelude.{◌≡◌, ◌↔◌, ℕ, Bool, false, ◌&&◌, if◌then◌else◌, List, map, Option, None, Some, Contains}
use Rattle.std.specs.List.{list_any, list_all}
use Rattle.std.specs.List.Sorted.{IsStrictlySortedBy}
use Rattle.std.specs.Ordering.{nat_cmp}
use Rattle.std.specs.Cmp.Lexicographic.{slice_cmp}
use Rattle.ddt_path.specs.Covers.{is_same_path}
use Rattle.ddt_register.specs.declared.register.Register.{Register}
use Rattle.ddt_check.specs.Zones.{is_same_role}
use Rattle.ddt_config.specs.declared.child.Child.{Child}
use Rattle.ddt_config.specs.declared.site_entry.SiteEntry.{SiteEntry}
use Rattle.ddt_config.specs.declared.authority.Content.{Content}
use Rattle.ddt_config.specs.declared.authority.Content.TheVariants.{Children, Sites}
use Rattle.ddt_config.specs.declared.authority.Authority.{Authority}
use Rattle.ddt_config.specs.Table.{Outline}
use Rattle.ddt_compile.specs.GroupConfig.{config_named}
use Rattle.ddt_plan.specs.declared.groups.GroupChangeKind.{GroupChangeKind}
use Rattle.ddt_plan.specs.declared.groups.GroupChangeKind.TheVariants.{Added, Removed, Changed}
use Rattle.ddt_plan.specs.declared.groups.GroupChange.{GroupChange}
use Rattle.ddt_plan.specs.Changes.{are_same_servers}

-- each item of either list has its like in the other, whatever the order
abbrev pub are_alike : {A : Type 0} → (A → A → Bool) → List A → List A → Bool
are_alike same xs ys =
    list_all (λ x. list_any (λ y. same x y) ys) xs && list_all (λ y. list_any (λ x. same x y) xs) ys

-- a child of the same prefix, kind and servers; a site of the same prefix and ETRs
abbrev pub is_same_child : Child → Child → Bool
is_same_child c d =
    is_same_path c.prefix d.prefix && (is_same_role c.role d.role && are_same_servers c.locators d.locators)

-- Two sites have the same EID-prefix, and the same ETRs in the same order.
abbrev pub is_same_site : SiteEntry → SiteEntry → Bool
is_same_site s t = is_same_path s.prefix t.prefix && are_same_servers s.etrs t.etrs

-- the same children or the same sites
abbrev pub is_same_content : Content → Content → Bool
is_same_content (Children cs) (Children ds) = are_alike is_same_child cs ds
is_same_content (Sites ss) (Sites ts) = are_alike is_same_site ss ts
is_same_content (Children cs) (Sites ts) = false
is_same_content (Sites ss) (Children ds) = false

-- an authority of the same prefix that holds the same
abbrev pub is_same_authority : Authority → Authority → Bool
is_same_authority a b = is_same_path a.prefix b.prefix && is_same_content a.content b.content

-- two configurations are alike: the same kind, the same locators in the same order, and the same authorities
abbrev pub is_same_config : Outline → Outline → Bool
is_same_config c d =
    is_same_role c.role d.role
    && (are_same_servers c.locators d.locators && are_alike is_same_authority c.authorities d.authorities)

-- how a configuration changes, where there may be none before or after
abbrev pub change_of_config : Option Outline → Option Outline → Option GroupChangeKind
change_of_config None None = None
change_of_config None (Some d) = Some Added
change_of_config (Some c) None = Some Removed
change_of_config (Some c) (Some d) = if is_same_config c d then None else Some Changed

-- how the configuration of the group of a name changes, if it does
abbrev pub change_of_group : Register → Register → List ℕ → Option GroupChangeKind
change_of_group r s name = change_of_config (config_named r name) (config_named s name)

-- The groups that change from one register to another: a name is listed with a kind if and only if the configuration of
-- its group changes so. They are in the order of their names, none twice.
pub record AreGroupChanges (before after : Register) (changes : List GroupChange) : Type 0 where
  pub exact : (c : GroupChange) → Contains changes c ↔ (change_of_group before after c.name ≡ Some c.kind)
  pub in_order : IsStrictlySortedBy (slice_cmp nat_cmp) (map (λ c. c.name) changes)
