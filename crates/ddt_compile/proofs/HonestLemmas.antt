-- A compiled configuration answers what the register says: at a zone of DDT nodes, at one of Map-Servers, at a locator.
use Rattle.std.proofs.Common.{◌≡◌, ℕ, true, List, length, map, Option, Some, None, cond, refl, sym, ap, subst, ◌∙◌}
use Rattle.std.specs.Prelude.{◌==◌, unwrap_or}
use Rattle.std.specs.List.{filter, All}
use Rattle.std.specs.Option.{option_map, option_map_or}
use Rattle.std.proofs.lemmas.Simd.{map-map}
use Rattle.ddt_path.specs.declared.locator.Locator.{Locator}
use Rattle.ddt_path.specs.declared.record.Role.{Role}
use Rattle.ddt_path.specs.declared.record.Role.TheVariants.{Node, Ms}
use Rattle.ddt_path.specs.declared.record.Outcome.{Outcome}
use Rattle.ddt_path.specs.declared.record.Outcome.TheVariants.{Registered, NotRegistered, Hole}
use Rattle.ddt_path.specs.Covers.{covers, is_strictly_below}
use Rattle.ddt_path.specs.Records.{record_of, not_authoritative}
use Rattle.ddt_path.specs.Free.{hole_of}
use Rattle.ddt_path.specs.Matching.{longest_match}
use Rattle.ddt_path.specs.Locators.{lists}
use Rattle.ddt_path.specs.laws.Hole.{free_agree}
use Rattle.ddt_path.specs.laws.Cover.{covers_trans}
use Rattle.ddt_path.specs.laws.Front.{below_parts}
use Rattle.ddt_register.specs.declared.zone.Zone.{Zone}
use Rattle.ddt_register.specs.declared.site.Site.{Site}
use Rattle.ddt_register.specs.declared.group.Group.{Group}
use Rattle.ddt_register.specs.declared.register.Register.{Register}
use Rattle.ddt_check.specs.Zones.{site_of, locators_of, is_direct_child, is_site_in, is_served_by}
use Rattle.ddt_check.specs.Assignment.{assignment, assigned_in, assigned_site, prefixes_below, prefixes_below_site, prefixes_within}
use Rattle.ddt_check.specs.Says.{next_zone, says, says_from, referral_to as referral_to_zone}
use Rattle.ddt_check.specs.Rules.{IsAccepted}
use Rattle.ddt_check.specs.laws.Zone.{zone_prefix, site_prefix}
use Rattle.ddt_config.specs.declared.authority.Authority.{Authority}
use Rattle.ddt_config.specs.declared.authority.Content.TheVariants.{Children, Sites}
use Rattle.ddt_config.specs.declared.child.Child.{Child}
use Rattle.ddt_config.specs.declared.site_entry.SiteEntry.{SiteEntry}
use Rattle.ddt_config.specs.declared.config.ServerConfig.{ServerConfig}
use Rattle.ddt_config.specs.Table.{outline}
use Rattle.ddt_config.specs.Answer.{answer, answer_in, referral_to, site_outcome, strictly_below}
use Rattle.ddt_compile.specs.GroupConfig.{child_of, children_of, entry_of, sites_of, content_of, authority_of, group_config}
use Rattle.ddt_compile.specs.laws.Statements.{IsHonestConfig}
use Rattle.ddt_path.specs.laws.Member.{IsIn, all_made}
use Rattle.ddt_path.specs.declared.matches.Preference.TheVariants.{Longest}
use Rattle.ddt_check.specs.laws.Served.{locators_of_zone, group_serves}
use Rattle.ddt_check.specs.laws.Next.{assigned_here}
use Rattle.ddt_check.specs.laws.Child.{longest_child, same_free}
use Rattle.ddt_check.specs.laws.Site.{no_next_zone, longest_site, site_inside}
use Rattle.ddt_path.specs.laws.Filter.{in_filter, kept_by_both}
use Rattle.ddt_path.specs.laws.Matching.{best_member, best_match-map}

abbrev child_prefix : Child → List ℕ
child_prefix c = c.prefix

abbrev entry_prefix : SiteEntry → List ℕ
entry_prefix s = s.prefix

abbrev authority_prefix : Authority → List ℕ
authority_prefix a = a.prefix

-- ---- at a zone that covers an identifier

module _ (r : Register) (accepted : IsAccepted r) (p : Zone) (x : List ℕ) (j : IsIn p r.zones) (c : covers p.prefix x ≡ true) where
  abbrev servers : List Locator
  servers = locators_of r p.group

  same_hole : hole_of p.prefix (map child_prefix (children_of r p)) x ≡ hole_of p.prefix (prefixes_below r p) x
  same_hole =
      ap (λ (ps : List (List ℕ)). hole_of p.prefix ps x) (map-map child_prefix (child_of r) _)
      ∙ ap (λ (hole : Option (List ℕ)). unwrap_or hole x) (free_agree p.prefix _ _ x (same_free r p))

  found_child : longest_match child_prefix (children_of r p) x ≡ option_map (child_of r) (next_zone r (length p.prefix) x)
  found_child = best_match-map Longest (child_of r) child_prefix _ x ∙ ap (option_map (child_of r)) (longest_child r accepted p x c)

  node_answers : p.kind ≡ Node → answer_in servers p.prefix (Children (children_of r p)) x ≡ says_from r p x
  node_answers node =
      ap (λ (o : Option Child). option_map_or referral_to o (record_of (Hole (hole_of p.prefix (map child_prefix (children_of r p)) x)))) found_child
      ∙ go (next_zone r (length p.prefix) x) refl
    where
      go : (found : Option Zone) → next_zone r (length p.prefix) x ≡ found
          → option_map_or referral_to (option_map (child_of r) found) (record_of (Hole (hole_of p.prefix (map child_prefix (children_of r p)) x)))
          ≡ option_map_or (referral_to_zone r) found (record_of (assignment r x))
      go (Some z) e = refl
      go None e =
          ap (λ (q : List ℕ). record_of (Hole q)) same_hole
          ∙ ap record_of (sym (assigned_here r accepted p x j c e ∙ ap (λ (role : Role). assigned_in r p role x) node))

  -- what the zone has strictly below one of its sites is all that is there
  same_below : (s : Site) → covers p.prefix s.prefix ≡ true → strictly_below s.prefix (map entry_prefix (sites_of r p)) ≡ prefixes_below_site r s
  same_below s inside =
      ap (strictly_below s.prefix) (map-map entry_prefix entry_of _)
      ∙ kept_by_both site_prefix (is_site_in p) (λ q. is_strictly_below q s.prefix)
      (λ t below. covers_trans p.prefix s.prefix t.prefix inside (below_parts t.prefix s.prefix below).0) r.sites

  site_outcomes : (hole : Outcome) (found : Option Site) → site_of r x ≡ found
      → option_map_or (site_outcome servers (map entry_prefix (sites_of r p)) x) (option_map entry_of found) hole
      ≡ option_map_or (λ (s : Site). assigned_site r p s x) found hole
  site_outcomes hole None is = refl
  site_outcomes hole (Some s) is =
      let m = best_member Longest site_prefix x r.sites s is in
      ap (λ (ps : List (List ℕ)). cond (length s.etrs == 0) (NotRegistered (hole_of s.prefix ps x) servers) (Registered s.prefix servers))
      (same_below s (site_inside r accepted p s x j c m.0 m.1))

  site_answers : p.kind ≡ Ms → answer_in servers p.prefix (Sites (sites_of r p)) x ≡ says_from r p x
  site_answers ms =
      let next = no_next_zone r accepted p x j ms c in
      let outcome = site_outcome servers (map entry_prefix (sites_of r p)) x in
      ap (λ (o : Option SiteEntry). record_of (option_map_or outcome o (Hole (hole_of p.prefix (map entry_prefix (sites_of r p)) x))))
      (best_match-map Longest entry_of entry_prefix _ x ∙ ap (option_map entry_of) (longest_site r accepted p x j c))
      ∙ ap (λ (ps : List (List ℕ)). record_of (option_map_or outcome (option_map entry_of (site_of r x)) (Hole (hole_of p.prefix ps x))))
      (map-map entry_prefix entry_of _)
      ∙ ap record_of (site_outcomes (Hole (hole_of p.prefix (prefixes_within r p) x)) (site_of r x) refl
      ∙ sym (assigned_here r accepted p x j c next ∙ ap (λ (role : Role). assigned_in r p role x) ms))
      ∙ ap (λ (o : Option Zone). option_map_or (referral_to_zone r) o (record_of (assignment r x))) (sym next)

  zone_answers : (role : Role) → p.kind ≡ role → answer_in servers p.prefix (content_of r p role) x ≡ says_from r p x
  zone_answers Node e = node_answers e
  zone_answers Ms e = site_answers e

-- ---- at a locator

pub honest_at : (r : Register) → IsAccepted r → (g : Group) (l : Locator) (x : List ℕ) → IsIn g r.groups → lists g.locators l ≡ true
    → answer (group_config r g) x ≡ says r l x
honest_at r accepted g l x k here =
    let zones = filter (is_served_by g) r.zones in
    ap (λ (o : Option Authority). option_map_or (λ (a : Authority). answer_in g.locators a.prefix a.content x) o (not_authoritative x))
    (best_match-map Longest (authority_of r) authority_prefix zones x)
    ∙ go (longest_match zone_prefix zones x) refl
    ∙ ap (λ (served : List Zone). option_map_or (λ (z : Zone). says_from r z x) (longest_match zone_prefix served x) (not_authoritative x))
    (sym (group_serves r accepted g l k here))
  where
    go : (found : Option Zone) → longest_match zone_prefix (filter (is_served_by g) r.zones) x ≡ found
        → option_map_or (λ (a : Authority). answer_in g.locators a.prefix a.content x) (option_map (authority_of r) found) (not_authoritative x)
        ≡ option_map_or (λ (z : Zone). says_from r z x) found (not_authoritative x)
    go None e = refl
    go (Some p) e =
        let m = best_member Longest zone_prefix x (filter (is_served_by g) r.zones) p e in
        let q = in_filter (is_served_by g) r.zones p m.0 in
        subst (λ (ls : List Locator). answer_in ls p.prefix (content_of r p p.kind) x ≡ says_from r p x) (locators_of_zone r accepted g p k q.1)
        (zone_answers r accepted p x q.0 m.1 p.kind refl)

-- the same of a list of configurations, one for each group
pub honest_configs : (r : Register) → IsAccepted r → (configs : List ServerConfig) → map outline configs ≡ map (group_config r) r.groups
    → All (λ (c : ServerConfig). IsHonestConfig r (outline c)) configs
honest_configs r accepted configs e =
    all_made (IsHonestConfig r) outline (group_config r) configs r.groups (λ g k l x here. honest_at r accepted g l x k here) e
