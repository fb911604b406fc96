-- A compiled configuration has room: a register has at most 65,535 zones and as many sites; each zone is a direct child
-- of one zone, and each site lies in one zone of Map-Servers.
use Rattle.std.proofs.Common.{◌≡◌, ◌≤◌, Bool, true, List, length, map, refl, sym, ap, ◌∙◌, arith}
use Rattle.std.specs.List.{filter, sum_by, All}
use Rattle.std.proofs.lemmas.List.{length-map}
use Rattle.ddt_path.specs.declared.record.Role.{Role}
use Rattle.ddt_path.specs.declared.record.Role.TheVariants.{Node, Ms}
use Rattle.ddt_path.specs.laws.Filter.{in_filter}
use Rattle.ddt_path.specs.laws.Member.{IsIn, all_made}
use Rattle.ddt_register.specs.declared.zone.Zone.{Zone}
use Rattle.ddt_register.specs.declared.site.Site.{Site}
use Rattle.ddt_register.specs.declared.group.Group.{Group}
use Rattle.ddt_register.specs.declared.register.Register.{Register}
use Rattle.ddt_register.specs.laws.Count.{few_rows, filter_few, sum_made, kept_in_all}
use Rattle.ddt_register.specs.laws.Rising.{rise-filter, zones_rise, sites_rise}
use Rattle.ddt_check.specs.Rules.{IsAccepted}
use Rattle.ddt_check.specs.Zones.{is_direct_child, is_site_in, is_served_by}
use Rattle.ddt_check.specs.laws.Child.{one_parent}
use Rattle.ddt_check.specs.laws.Holder.{one_holder}
use Rattle.ddt_check.specs.laws.Kept.{role_of_zone}
use Rattle.ddt_config.specs.declared.child.Child.{Child}
use Rattle.ddt_config.specs.declared.site_entry.SiteEntry.{SiteEntry}
use Rattle.ddt_config.specs.declared.config.ServerConfig.{ServerConfig}
use Rattle.ddt_config.specs.Table.{outline}
use Rattle.ddt_config.specs.Entries.{prefixes_in, count_in}
use Rattle.ddt_compile.specs.GroupConfig.{child_of, children_of, entry_of, sites_of, content_of, authority_of, group_config}
use Rattle.ddt_compile.specs.laws.Statements.{HasRoom}

module _ (r : Register) (accepted : IsAccepted r) (g : Group) (k : IsIn g r.groups) where
  abbrev served : List Zone
  served = filter (is_served_by g) r.zones

  served_parts : (z : Zone) → IsIn z served → IsIn z r.zones × (z.kind ≡ g.kind)
  served_parts z j = let p = in_filter (is_served_by g) r.zones z j in (p.0, sym (role_of_zone r accepted g z k p.0 p.1))

  -- of items that are each in one zone at most, the zones of the group hold no more than there are
  held_of : {A : Type 0} (test : Zone → A → Bool) (items : List A) → ((z : Zone) → IsIn z served → count_in (authority_of r z) ≡ length (filter (test z) items))
      → ((a b : Zone) (x : A) → IsIn a served → IsIn b served → test a x ≡ true → test b x ≡ true → a ≡ b)
      → sum_by count_in (map (authority_of r) served) ≤ length items
  held_of test items same one =
      let sum = sum_made count_in (authority_of r) (λ (z : Zone). length (filter (test z) items)) served same in
      let le = kept_in_all (λ (z : Zone). z.row) test items served 0 (rise-filter (λ (z : Zone). z.row) (is_served_by g) r.zones 0 (zones_rise r))
      (λ a b x i j _. one a b x i j) in
      omega arith

  held : (role : Role) → g.kind ≡ role → sum_by count_in (map (authority_of r) served) ≤ 65535
  held Node e =
      let le = held_of (is_direct_child r) r.zones
      (λ z j. ap (λ (role : Role). length (prefixes_in (content_of r z role))) ((served_parts z j).1 ∙ e)
      ∙ length-map (children_of r z) (λ (c : Child). c.prefix) ∙ length-map (filter (is_direct_child r z) r.zones) (child_of r))
      (λ a b c i j. one_parent r accepted a b c (served_parts a i).0 (served_parts b j).0) in
      let few = few_rows (λ (z : Zone). z.row) r.zones (zones_rise r) in
      omega arith
  held Ms e =
      let le = held_of is_site_in r.sites
      (λ z j. ap (λ (role : Role). length (prefixes_in (content_of r z role))) ((served_parts z j).1 ∙ e)
      ∙ length-map (sites_of r z) (λ (s : SiteEntry). s.prefix) ∙ length-map (filter (is_site_in z) r.sites) entry_of)
      (λ a b s i j c d. one_holder r accepted b a s (served_parts b j).0 ((served_parts b j).1 ∙ e) (served_parts a i).0 ((served_parts a i).1 ∙ e) c d) in
      let few = few_rows (λ (s : Site). s.row) r.sites (sites_rise r) in
      omega arith

  pub group_has_room : HasRoom (group_config r g)
  group_has_room =
      let count = length-map served (authority_of r) in
      let kept = filter_few (is_served_by g) r.zones in
      let few = few_rows (λ (z : Zone). z.row) r.zones (zones_rise r) in
      let rest = held g.kind refl in
      omega arith

-- the same of a list of configurations, one for each group
pub configs_have_room : (r : Register) → IsAccepted r → (configs : List ServerConfig) → map outline configs ≡ map (group_config r) r.groups
    → All (λ (c : ServerConfig). HasRoom (outline c)) configs
configs_have_room r accepted configs e = all_made HasRoom outline (group_config r) configs r.groups (group_has_room r accepted) e
