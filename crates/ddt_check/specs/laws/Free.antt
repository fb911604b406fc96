-- Each hole, and each part of a site that isn't registered, is a free prefix.
use Rattle.std.proofs.Common.{◌≡◌, ℕ, ◌≤◌, Bool, true, false, cond, ◌==◌, List, length, Option, Some, None, refl, sym, ◌∙◌, arith}
use Rattle.std.specs.Option.{option_map_or}
use Rattle.ddt_path.specs.declared.locator.Locator.{Locator}
use Rattle.ddt_path.specs.declared.matches.Preference.TheVariants.{Longest}
use Rattle.ddt_path.specs.declared.record.Role.{Role}
use Rattle.ddt_path.specs.declared.record.Role.TheVariants.{Node, Ms}
use Rattle.ddt_path.specs.declared.record.Outcome.TheVariants.{Registered, NotRegistered, Hole}
use Rattle.ddt_path.specs.Covers.{covers, is_strictly_below}
use Rattle.ddt_path.specs.Free.{free, hole_of}
use Rattle.ddt_path.specs.Matching.{longest_match}
use Rattle.ddt_path.specs.Path.{is_path, is_prefix_path}
use Rattle.ddt_path.specs.laws.Hole.{kept_covers, hole_is}
use Rattle.ddt_path.specs.laws.Front.{below_parts}
use Rattle.ddt_path.specs.laws.Matching.{best_member, best_there, best_unbeaten}
use Rattle.ddt_path.specs.laws.Member.{IsIn, holds_at}
use Rattle.ddt_register.specs.declared.zone.Zone.{Zone}
use Rattle.ddt_register.specs.declared.site.Site.{Site}
use Rattle.ddt_register.specs.declared.register.Register.{Register}
use Rattle.ddt_register.specs.Ranges.{is_zone_in_range, is_site_in_range}
use Rattle.ddt_register.specs.laws.Range as range
use Rattle.ddt_register.specs.laws.Range.{zones_in_range, sites_in_range}
use Rattle.ddt_check.specs.Zones.{zone_of, site_of, locators_of}
use Rattle.ddt_check.specs.Assignment.{assignment, assigned_in, assigned_site, part_of_site, prefixes_in, prefixes_below_site}
use Rattle.ddt_check.specs.Rules.{IsAccepted}
use Rattle.ddt_check.specs.laws.Root.{zone_found}
use Rattle.ddt_check.specs.laws.Statements.{IsPartOfItsSite}
use Rattle.ddt_check.specs.laws.Zone.{zone_prefix, site_prefix, assigned_at}

module _ (r : Register) (accepted : IsAccepted r) where
  zone_is_prefix : (z : Zone) → IsIn z r.zones → is_prefix_path z.prefix ≡ true
  zone_is_prefix z k = range.zone_prefix z (holds_at is_zone_in_range r.zones z (zones_in_range r) k)

  site_is_prefix : (s : Site) → IsIn s r.sites → is_prefix_path s.prefix ≡ true
  site_is_prefix s k = range.site_prefix s (holds_at is_site_in_range r.sites s (sites_in_range r) k)

  module _ (x : List ℕ) (e : is_path x ≡ true) where
    -- no longer item covers than the one that is found
    no_longer_covers : {A : Type 0} (prefix : A → List ℕ) (items : List A) (a b : A) → longest_match prefix items x ≡ Some a → IsIn b items → is_strictly_below (prefix b) (prefix a) ≡ true → covers (prefix b) x ≡ true → ⊥
    no_longer_covers prefix items a b at k below c =
        let le : length (prefix b) ≤ length (prefix a) = best_unbeaten Longest prefix x items a b at k c in
        let lt = (below_parts (prefix b) (prefix a) below).1 in
        omega arith

    module _ (z : Zone) (here : zone_of r x ≡ Some z) where
      zone_in : IsIn z r.zones × (covers z.prefix x ≡ true)
      zone_in = best_member Longest zone_prefix x r.zones z here

      node_hole : (q : List ℕ) → hole_of z.prefix (prefixes_in r z Node) x ≡ q → free z.prefix (prefixes_in r z Node) x ≡ Some q
      node_hole q is = hole_is z.prefix (prefixes_in r z Node) x q (λ none.
          let y = kept_covers zone_prefix (λ (w : Zone). is_strictly_below w.prefix z.prefix) r.zones z.prefix x e zone_is_prefix zone_in.1 none in
          no_longer_covers zone_prefix r.zones z y.0 here y.1 y.2 y.3) is

      ms_hole : (q : List ℕ) → site_of r x ≡ None → hole_of z.prefix (prefixes_in r z Ms) x ≡ q → free z.prefix (prefixes_in r z Ms) x ≡ Some q
      ms_hole q unsited is = hole_is z.prefix (prefixes_in r z Ms) x q (λ none.
          let s = kept_covers site_prefix (λ (t : Site). covers z.prefix t.prefix) r.sites z.prefix x e site_is_prefix zone_in.1 none in
          best_there Longest site_prefix x r.sites s.0 unsited s.1 s.3) is

      part_is : (s : Site) (q : List ℕ) → site_of r x ≡ Some s → part_of_site r s x ≡ q → free s.prefix (prefixes_below_site r s) x ≡ Some q
      part_is s q at is = hole_is s.prefix (prefixes_below_site r s) x q (λ none.
          let t = kept_covers site_prefix (λ (u : Site). is_strictly_below u.prefix s.prefix) r.sites s.prefix x e site_is_prefix (best_member Longest site_prefix x r.sites s at).1 none in
          no_longer_covers site_prefix r.sites s t.0 at t.1 t.2 t.3) is

      -- ---- a hole
      hole_whether : (s : Site) (q : List ℕ) (b : Bool) → cond b (NotRegistered (part_of_site r s x) (locators_of r z.group)) (Registered s.prefix (locators_of r z.group)) ≡ Hole q → ⊥
      hole_whether s q true is = cc
      hole_whether s q false is = cc

      hole_sited : (q : List ℕ) (found : Option Site) → site_of r x ≡ found → option_map_or (λ s. assigned_site r z s x) found (Hole (hole_of z.prefix (prefixes_in r z Ms) x)) ≡ Hole q → free z.prefix (prefixes_in r z Ms) x ≡ Some q
      hole_sited q None at is = let same : hole_of z.prefix (prefixes_in r z Ms) x ≡ q = cc is in ms_hole q at same
      hole_sited q (Some s) at is = absurd (hole_whether s q (length s.etrs == 0) is)

      hole_by_role : (q : List ℕ) (role : Role) → assigned_in r z role x ≡ Hole q → free z.prefix (prefixes_in r z role) x ≡ Some q
      hole_by_role q Node is = let same : hole_of z.prefix (prefixes_in r z Node) x ≡ q = cc is in node_hole q same
      hole_by_role q Ms is = hole_sited q (site_of r x) refl is

      -- ---- a part of a site
      part_whether : (q : List ℕ) (servers : List Locator) (s : Site) → site_of r x ≡ Some s → (b : Bool) → cond b (NotRegistered (part_of_site r s x) (locators_of r z.group)) (Registered s.prefix (locators_of r z.group)) ≡ NotRegistered q servers → IsPartOfItsSite r x q servers
      part_whether q servers s at true is =
          let same : part_of_site r s x ≡ q = cc is in
          let set : locators_of r z.group ≡ servers = cc is in
          record { site = s; its_site = at; is_free = part_is s q at same; zone = z; its_zone = here; its_servers = sym set }
      part_whether q servers s at false is = absurd cc

      part_sited : (q : List ℕ) (servers : List Locator) (found : Option Site) → site_of r x ≡ found → option_map_or (λ s. assigned_site r z s x) found (Hole (hole_of z.prefix (prefixes_in r z Ms) x)) ≡ NotRegistered q servers → IsPartOfItsSite r x q servers
      part_sited q servers None at is = absurd cc
      part_sited q servers (Some s) at is = part_whether q servers s at (length s.etrs == 0) is

      part_by_role : (q : List ℕ) (servers : List Locator) (role : Role) → assigned_in r z role x ≡ NotRegistered q servers → IsPartOfItsSite r x q servers
      part_by_role q servers Node is = absurd cc
      part_by_role q servers Ms is = part_sited q servers (site_of r x) refl is

  pub hole_is_free_in : (x q : List ℕ) → is_path x ≡ true → assignment r x ≡ Hole q → (z : Zone) × (zone_of r x ≡ Some z) × (free z.prefix (prefixes_in r z z.kind) x ≡ Some q)
  hole_is_free_in x q e is =
      let found = zone_found r accepted x in
      (found.0, found.1, hole_by_role x e found.0 found.1 q found.0.kind (sym (assigned_at r x found.0 found.1) ∙ is))

  pub part_is_free_in : (x q : List ℕ) (servers : List Locator) → is_path x ≡ true → assignment r x ≡ NotRegistered q servers → IsPartOfItsSite r x q servers
  part_is_free_in x q servers e is =
      let found = zone_found r accepted x in
      part_by_role x e found.0 found.1 q servers found.0.kind (sym (assigned_at r x found.0 found.1) ∙ is)
