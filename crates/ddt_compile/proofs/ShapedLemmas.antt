-- The configuration of a group of an accepted register has the shape that a configuration keeps.
use Rattle.std.proofs.Common.{◌≡◌, ℕ, ◌<◌, Bool, true, false, List, [], ◌∷◌, length, map, refl, ◌∙◌, arith, inl, inr, le-leb}
use Rattle.std.specs.List.{filter}
use Rattle.ddt_path.specs.declared.locator.Locator.{Locator}
use Rattle.ddt_path.specs.declared.record.Role.{Role}
use Rattle.ddt_path.specs.declared.record.Role.TheVariants.{Node, Ms}
use Rattle.ddt_path.specs.Covers.{overlaps, is_same_path}
use Rattle.ddt_path.specs.laws.Filter.{in_filter, all_kept}
use Rattle.ddt_path.specs.laws.Member.{IsIn, none_of}
use Rattle.ddt_register.specs.declared.zone.Zone.{Zone}
use Rattle.ddt_register.specs.declared.site.Site.{Site}
use Rattle.ddt_register.specs.declared.group.Group.{Group}
use Rattle.ddt_register.specs.declared.register.Register.{Register}
use Rattle.ddt_register.specs.Rows.{rise}
use Rattle.ddt_register.specs.laws.Rising.{rise_parts, above, rise-filter, zones_rise, sites_rise}
use Rattle.ddt_check.specs.Rules.{IsAccepted}
use Rattle.ddt_check.specs.Zones.{locators_of, is_direct_child, is_site_in, is_served_by}
use Rattle.ddt_check.specs.laws.Child.{child_parts, children_apart}
use Rattle.ddt_check.specs.laws.Kept.{own_prefix, own_site, few_etrs, role_of_zone, server_set, servers_of_zone}
use Rattle.ddt_check.specs.laws.Statements.{AreServers}
use Rattle.ddt_config.specs.Shaped.{no_two, is_server_set, is_child_of, is_site_of, is_content_of, is_authority_of, is_shaped}
use Rattle.ddt_config.specs.laws.Neighbour.{no_two-map}
use Rattle.ddt_compile.specs.GroupConfig.{child_of, entry_of, content_of, authority_of, authorities_of}

-- ---- items in rows that rise, of which none clashes with one of a higher row

no_two_rising : {A : Type 0} (row : A → ℕ) (clash : A → A → Bool) (xs : List A) (last : ℕ) → rise last (map row xs) ≡ true
    → ((a b : A) → IsIn a xs → IsIn b xs → row a < row b → clash a b ≡ false) → no_two clash xs ≡ true
no_two_rising row clash [] last e h = refl
no_two_rising row clash (x ∷ xs) last e h =
    let p = rise_parts last (row x) (map row xs) e in
    rw (
      none_of (clash x) xs (λ y k. h x y (inl refl) (inr k) (above row xs (row x) y p.1 k)),
      no_two_rising row clash xs (row x) p.1 (λ a b j k lt. h a b (inr j) (inr k) lt),
    ) refl

no_two_kept : {A B : Type 0} (row : A → ℕ) (f : A → B) (clash : B → B → Bool) (test : A → Bool) (xs : List A) → rise 0 (map row xs) ≡ true
    → ((a b : A) → IsIn a xs → IsIn b xs → row a < row b → test a ≡ true → test b ≡ true → clash (f a) (f b) ≡ false)
    → no_two clash (map f (filter test xs)) ≡ true
no_two_kept row f clash test xs e h =
    no_two-map clash f (filter test xs)
    ∙ no_two_rising row (λ a b. clash (f a) (f b)) (filter test xs) 0 (rise-filter row test xs 0 e)
    (λ a b j k lt. let p = in_filter test xs a j in let q = in_filter test xs b k in h a b p.0 q.0 lt p.1 q.1)

-- ---- what a group has, and what its zones hold

as_set : (ls : List Locator) → AreServers ls → is_server_set ls ≡ true
as_set ls h = rw (le-leb 1 (length ls) (omega (arith, h.0)), le-leb (length ls) 8 h.1) refl

module _ (r : Register) (accepted : IsAccepted r) where
  content_shaped : (z : Zone) (role : Role) → is_content_of role z.prefix (content_of r z role) ≡ true
  content_shaped z Node =
      rw (
        all_kept (child_of r) (is_child_of z.prefix) (is_direct_child r z) r.zones
            (λ c k direct. rw ((child_parts r z c direct).0, as_set (locators_of r c.group) (servers_of_zone r accepted c k)) refl),
        no_two_kept (λ (y : Zone). y.row) (child_of r) (λ a b. overlaps a.prefix b.prefix) (is_direct_child r z) r.zones (zones_rise r)
            (λ a b j k lt p q. children_apart r accepted z a b p q j k lt),
      ) refl
  content_shaped z Ms =
      rw (
        all_kept entry_of (is_site_of z.prefix) (is_site_in z) r.sites (λ s k inside. rw (inside, le-leb (length s.etrs) 8 (few_etrs r accepted s k)) refl),
        no_two_kept (λ (s : Site). s.row) entry_of (λ a b. is_same_path a.prefix b.prefix) (is_site_in z) r.sites (sites_rise r)
            (λ a b j k lt p q. own_site r accepted a b j k lt),
      ) refl

  pub group_shaped : (g : Group) → IsIn g r.groups → is_shaped g.kind g.locators (authorities_of r g) ≡ true
  group_shaped g k =
      let own = server_set r accepted g k in
      rw (
        as_set g.locators own.0,
        own.1,
        no_two_kept (λ (z : Zone). z.row) (authority_of r) (λ a b. is_same_path a.prefix b.prefix) (is_served_by g) r.zones (zones_rise r)
            (λ a b i j lt p q. own_prefix r accepted a b i j lt),
        all_kept (authority_of r) (is_authority_of g.kind) (is_served_by g) r.zones
            (λ z j served. rw (role_of_zone r accepted g z k j served) (content_shaped z z.kind)),
      ) refl
