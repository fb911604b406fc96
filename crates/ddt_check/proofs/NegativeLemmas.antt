-- What the assignment of one identifier says of others that its prefix covers.
use Rattle.std.proofs.Common.{◌≡◌, ◌≤◌, ◌==◌, ℕ, Bool, true, List, length, map, filter, Some, refl, sym, ap, ◌∙◌, arith, inl, inr}
use Rattle.std.proofs.lemmas.Bool.{cases_lt, both_ways, false_from_ne_true}
use Rattle.std.proofs.lemmas.Option.{same_Some, none-some}
use Rattle.ddt_path.specs.declared.locator.Locator.{Locator}
use Rattle.ddt_path.specs.declared.record.Role.{Role}
use Rattle.ddt_path.specs.declared.record.Role.TheVariants.{Node, Ms}
use Rattle.ddt_path.specs.declared.record.Outcome.{Outcome}
use Rattle.ddt_path.specs.declared.record.Outcome.TheVariants.{Registered, NotRegistered, Hole}
use Rattle.ddt_path.specs.Records.{record_of}
use Rattle.ddt_path.specs.Covers.{covers, overlaps, is_strictly_below}
use Rattle.ddt_path.specs.Free.{hole_of, overlaps_none}
use Rattle.ddt_path.specs.Path.{is_path}
use Rattle.ddt_path.specs.laws.Cover.{covers_trans, fronts_overlap}
use Rattle.ddt_path.specs.laws.Front.{front_below, one_front}
use Rattle.ddt_path.specs.laws.Hole.{kept_apart, IsFreeOf, hole_of_all_or_alone}
use Rattle.ddt_path.specs.laws.Member.{IsIn, contained}
use Rattle.ddt_path.specs.laws.Matching.{best_none, best_is}
use Rattle.ddt_path.specs.declared.matches.Preference.TheVariants.{Longest}
use Rattle.ddt_register.specs.declared.zone.Zone.{Zone}
use Rattle.ddt_register.specs.declared.site.Site.{Site}
use Rattle.ddt_register.specs.declared.register.Register.{Register}
use Rattle.ddt_check.specs.Zones.{zone_of, site_of, locators_of}
use Rattle.ddt_check.specs.Assignment.{assignment, part_of_site, prefixes_in, prefixes_below_site}
use Rattle.ddt_check.specs.Rules.{IsAccepted}
use Rattle.ddt_check.specs.laws.Statements.{IsSiteWithServers, negative_prefix}
use Rattle.ddt_check.specs.laws.Kept.{one_site}
use Rattle.ddt_check.specs.laws.Next.{next_none, zone_is}
use Rattle.ddt_check.specs.laws.Site.{no_next_zone, site_inside}
use Rattle.ddt_check.specs.laws.Zone.{zone_prefix, site_prefix}
use Rattle.ddt_check.proofs.CaseLemmas.{in_zone, in_site, assigned_cases}
use Rattle.ddt_check.proofs.SaysLemmas.{assigned_covers}

-- where q overlaps none of the items that pass, none of them covers what q covers
misses : {A : Type 0} (prefix : A → List ℕ) (test : A → Bool) (xs : List A) (q y : List ℕ) → covers q y ≡ true
    → overlaps_none (map prefix (filter test xs)) q ≡ true → (a : A) → IsIn a xs → test a ≡ true
    → covers (prefix a) y ≡ true → ⊥
misses prefix test xs q y c clear a k e d = both_ways (overlaps (prefix a) q) (kept_apart prefix test xs q clear a k e)
    (fronts_overlap (prefix a) q y d c)

-- so none is longer than an item, where q is free of those strictly below that item
none_longer : {A : Type 0} (prefix : A → List ℕ) (xs : List A) (a : A) (y q : List ℕ) → covers q y ≡ true
    → IsFreeOf (prefix a) (map prefix (filter (λ w. is_strictly_below (prefix w) (prefix a)) xs)) y q
    → (b : A) → IsIn b xs → covers (prefix b) y ≡ true → length (prefix b) ≤ length (prefix a)
none_longer prefix xs a y q c is b k d = elim (cases_lt (length (prefix a)) (length (prefix b))) [
  | inl lt ↦ absurd (misses prefix (λ w. is_strictly_below (prefix w) (prefix a)) xs q y c is.clear b k
      (front_below (prefix a) (prefix b) y (covers_trans (prefix a) q y is.inside c) d lt) d)
  | inr le ↦ le
]

negative_is : (o : Outcome) (q : List ℕ) → negative_prefix o ≡ Some q → (record_of o).prefix ≡ q
negative_is o q is = grind arith

module _ (r : Register) (accepted : IsAccepted r) where
  ms_zone_stays : (z : Zone) (y : List ℕ) → IsIn z r.zones → z.kind ≡ Ms → covers z.prefix y ≡ true → zone_of r y ≡ Some z
  ms_zone_stays z y k ms c = zone_is r accepted z y k c (no_next_zone r accepted z y k ms c)

  site_stays : (s : Site) (y q : List ℕ) → IsIn s r.sites → IsFreeOf s.prefix (prefixes_below_site r s) y q
      → covers q y ≡ true → site_of r y ≡ Some s
  site_stays s y q k is c =
      let cy = covers_trans s.prefix q y is.inside c in
      best_is Longest site_prefix y r.sites s k cy (λ t j d.
      let le = none_longer site_prefix r.sites s y q c is t j d in
      elim (cases_lt (length t.prefix) (length s.prefix)) [
        | inl shorter ↦ inr shorter
        | inr ge ↦ inl (one_site r accepted t s j k (one_front t.prefix s.prefix y d cy (omega arith)))
      ])

  -- what a free part of a zone, or of a site that isn't registered, covers is assigned that part
  free_hole : (z : Zone) (role : Role) (y q : List ℕ) → IsIn z r.zones → z.kind ≡ role → covers q y ≡ true
      → IsFreeOf z.prefix (prefixes_in r z role) y q → assignment r y ≡ Hole q
  free_hole z Node y q k kind c is =
      let here = zone_is r accepted z y k (covers_trans z.prefix q y is.inside c)
      (next_none r (length z.prefix) y (none_longer zone_prefix r.zones z y q c is)) in
      rw (here, kind, is.same)
  free_hole z Ms y q k kind c is =
      let cy = covers_trans z.prefix q y is.inside c in
      let none = best_none Longest site_prefix y r.sites (λ s j. false_from_ne_true (covers s.prefix y) (λ d.
      misses site_prefix (λ (t : Site). covers z.prefix t.prefix) r.sites q y c is.clear s j
      (site_inside r accepted z s y k cy j d) d)) in
      rw (ms_zone_stays z y k kind cy, kind, none, is.same)

  module _ (x y q : List ℕ) (e : is_path x ≡ true) (f : is_path y ≡ true) (c : covers q y ≡ true) where
    abbrev Holds : Outcome → Type 0
    Holds o = assignment r x ≡ o → negative_prefix o ≡ Some q → assignment r y ≡ o

    in_hole : (z : Zone) (role : Role) → zone_of r x ≡ Some z → z.kind ≡ role
        → Holds (Hole (hole_of z.prefix (prefixes_in r z role) x))
    in_hole z role here kind at is =
        let same = same_Some (hole_of z.prefix (prefixes_in r z role) x) q is in
        let k = in_zone r x z here in
        elim (hole_of_all_or_alone z.prefix (prefixes_in r z role) x y q e f k.1 same c) [
          | inl one ↦ ap (assignment r) (sym one) ∙ at
          | inr free ↦ rw same (free_hole z role y q k.0 kind c free)
        ]

    in_part : (z : Zone) (s : Site) → zone_of r x ≡ Some z → z.kind ≡ Ms → site_of r x ≡ Some s
        → (length s.etrs == 0) ≡ true → Holds (NotRegistered (part_of_site r s x) (locators_of r z.group))
    in_part z s here kind found silent at is =
        let same = same_Some (part_of_site r s x) q is in
        let k = in_zone r x z here in
        let p = in_site r x s found in
        elim (hole_of_all_or_alone s.prefix (prefixes_below_site r s) x y q e f p.1 same c) [
          | inl one ↦ ap (assignment r) (sym one) ∙ at
          | inr free ↦
              let cy = covers_trans z.prefix s.prefix y (site_inside r accepted z s x k.0 k.1 p.0 p.1)
              (covers_trans s.prefix q y free.inside c) in
              rw (ms_zone_stays z y k.0 kind cy, kind, site_stays s y q p.0 free c, silent, free.same, same)
        ]

  pub holds_of_all : (x q : List ℕ) → is_path x ≡ true → negative_prefix (assignment r x) ≡ Some q → (y : List ℕ)
      → is_path y ≡ true → covers q y ≡ true → assignment r y ≡ assignment r x
  holds_of_all x q e is y f c = assigned_cases r x (Holds x y q e f c) (in_hole x y q e f c) (in_part x y q e f c)
      (λ z s here kind found at is. absurd (none-some q is)) accepted refl is

  pub negative_covers : (x q : List ℕ) → negative_prefix (assignment r x) ≡ Some q → covers q x ≡ true
  negative_covers x q is = rw (negative_is (assignment r x) q is) at (assigned_covers r accepted x)

  -- a registered prefix is a site
  pub registered_is_site : (x q : List ℕ) (servers : List Locator) → assignment r x ≡ Registered q servers
      → IsSiteWithServers r x q servers
  registered_is_site x q servers = assigned_cases r x (λ o. o ≡ Registered q servers → IsSiteWithServers r x q servers)
      (λ z role here kind is. absurd cc) (λ z s here kind at silent is. absurd cc) (λ z s here kind at is.
      let w = in_zone r x z here in
      let p = in_site r x s at in
      let inside = site_inside r accepted z s x w.0 w.1 p.0 p.1 in
      let same : s.prefix ≡ q = cc is in
      let set : servers ≡ locators_of r z.group = cc is in
      record {
        site = s;
        is_site = contained r.sites s p.0;
        its_site = at;
        its_prefix = same;
        covers_it = rw same at p.1;
        zone = z;
        is_zone = contained r.zones z w.0;
        its_zone = rw same at (ms_zone_stays z s.prefix w.0 kind inside);
        covers_site = rw same at inside;
        its_servers = set;
      }) accepted
