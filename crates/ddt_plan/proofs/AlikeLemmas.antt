-- What no key is strictly below is assigned the same everywhere: as the prefix itself.
use Rattle.std.proofs.Common.{◌≡◌, ℕ, ◌<◌, ◌≤◌, Bool, true, false, cond, ◌==◌, List, [], ◌∷◌, ◌++◌, length, map, take, drop, Option, Some, None, refl, sym, ap, subst, ◌∙◌, arith, inl, inr}
use Rattle.std.specs.Prelude.{not, unwrap_or}
use Rattle.std.specs.Option.{option_map_or}
use Rattle.std.proofs.lemmas.Bool.{cases_lt, both_ways, false_from_ne_true, or_cases, not-true, and_parts}
use Rattle.std.proofs.lemmas.List.{append_assoc, append-nil, take-append-drop}
use Rattle.ddt_path.specs.declared.record.Role.{Role}
use Rattle.ddt_path.specs.declared.record.Role.TheVariants.{Node, Ms}
use Rattle.ddt_path.specs.declared.record.Outcome.{Outcome}
use Rattle.ddt_path.specs.declared.record.Outcome.TheVariants.{Registered, NotRegistered, Hole}
use Rattle.ddt_path.specs.declared.matches.Preference.{Preference}
use Rattle.ddt_path.specs.declared.matches.Preference.TheVariants.{Longest}
use Rattle.ddt_path.specs.Covers.{covers, overlaps, is_strictly_below}
use Rattle.ddt_path.specs.Free.{lengthened, parts_from, overlaps_none, free, hole_of}
use Rattle.ddt_path.specs.Matching.{best_match, better_of}
use Rattle.ddt_path.specs.laws.Cover.{covers_trans, below_from, length-covered}
use Rattle.ddt_path.specs.laws.Front.{front_below, front_covers, below_parts}
use Rattle.ddt_path.specs.laws.Hole.{parts_from_fits, hole_of_all, hole_is_free, apart_from_kept}
use Rattle.ddt_path.specs.laws.Matching.{best_member, best_there, best_unbeaten}
use Rattle.ddt_path.specs.laws.Member.{IsIn, holds_at, map_in, unfound, iff_same}
use Rattle.ddt_register.specs.declared.zone.Zone.{Zone}
use Rattle.ddt_register.specs.declared.site.Site.{Site}
use Rattle.ddt_register.specs.declared.register.Register.{Register}
use Rattle.ddt_check.specs.Zones.{zone_of, site_of, locators_of}
use Rattle.ddt_check.specs.Assignment.{assignment, assigned_in, assigned_site, prefixes_in, prefixes_below_site}
use Rattle.ddt_check.specs.laws.Zone.{zone_prefix, site_prefix}
use Rattle.ddt_plan.specs.Blocks.{keys_of, is_undivided}

-- ---- lists

pub in_first : {A : Type 0} (xs ys : List A) (a : A) → IsIn a xs → IsIn a (xs ++ ys)
in_first [] ys a k = absurd k
in_first (x ∷ xs) ys a (inl same) = inl same
in_first (x ∷ xs) ys a (inr later) = inr (in_first xs ys a later)

pub in_second : {A : Type 0} (xs ys : List A) (a : A) → IsIn a ys → IsIn a (xs ++ ys)
in_second [] ys a k = k
in_second (x ∷ xs) ys a k = inr (in_second xs ys a k)

-- items that cover the one path as they cover the other have one best match
alike_case : {A : Type 0} (w : Preference) (prefix : A → List ℕ) (a : A) (m n : Option A) (b c : Bool) → m ≡ n → b ≡ c
    → cond b (Some (better_of w prefix a m)) m ≡ cond c (Some (better_of w prefix a n)) n
alike_case w prefix a m n b c e f = cc

pub best_match-alike : {A : Type 0} (w : Preference) (prefix : A → List ℕ) (xs : List A) (x y : List ℕ)
    → ((a : A) → IsIn a xs → covers (prefix a) x ≡ covers (prefix a) y) → best_match w prefix xs x ≡ best_match w prefix xs y
best_match-alike w prefix [] x y h = refl
best_match-alike w prefix (a ∷ xs) x y h =
    alike_case w prefix a (best_match w prefix xs x) (best_match w prefix xs y) (covers (prefix a) x) (covers (prefix a) y)
    (best_match-alike w prefix xs x y (λ b k. h b (inr k))) (h a (inl refl))

-- ---- paths

-- what isn't strictly below q covers the same of q as of all inside q
pub covers_alike : (p q x : List ℕ) → is_strictly_below p q ≡ false → covers q x ≡ true → covers p x ≡ covers p q
covers_alike p q x not_below c = iff_same (covers p x) (covers p q)
    (λ d. elim (cases_lt (length q) (length p)) [
      | inl lt ↦ absurd (both_ways (is_strictly_below p q) not_below (front_below q p x c d lt))
      | inr le ↦ front_covers p q x d c le
    ])
    (λ d. covers_trans p q x d c)

-- and where it overlaps q it covers it
pub overlap_covers : (p q : List ℕ) → is_strictly_below p q ≡ false → overlaps p q ≡ true → covers p q ≡ true
overlap_covers p q not_below o = elim (or_cases (covers p q) (covers q p) o) [
  | inl up ↦ up
  | inr down ↦ elim (covers p q) as (λ b. covers p q ≡ b → b ≡ true) [
    | true ↦ λ e. refl
    | false ↦ λ e. absurd (both_ways (is_strictly_below p q) not_below (below_from p q down e))
  ] refl
]

-- ---- the hole of a prefix that is free

whole_among : (f r : List ℕ) → IsIn (f ++ r) (lengthened f r)
whole_among f [] = inl (append-nil f)
whole_among f (d ∷ r) = inr (subst (λ (l : List ℕ). IsIn l (lengthened (f ++ d ∷ []) r)) (append_assoc f (d ∷ []) r) (whole_among (f ++ d ∷ []) r))

-- a path is one of its own parts
pub itself_among : (n : ℕ) (x : List ℕ) → n ≤ length x → IsIn x (parts_from n x)
itself_among n x le =
    subst (λ (ps : List (List ℕ)). IsIn x ps) (sym (parts_from_fits n x le))
    (subst (λ (l : List ℕ). IsIn l (lengthened (take n x) (drop n x))) (take-append-drop n x) (whole_among (take n x) (drop n x)))

module _ (authority : List ℕ) (keys : List (List ℕ)) (q : List ℕ) (inside : covers authority q ≡ true) (clear : overlaps_none keys q ≡ true) where
  pub free_there : (found : Option (List ℕ)) → free authority keys q ≡ found → (p : List ℕ) × (free authority keys q ≡ Some p)
  free_there None e = absurd (both_ways (overlaps_none keys q)
      (unfound (overlaps_none keys) (parts_from (length authority) q) q e (itself_among (length authority) q (length-covered authority q inside))) clear)
  free_there (Some p) e = (p, e)

  pub hole_alike : (x : List ℕ) → covers q x ≡ true → hole_of authority keys x ≡ hole_of authority keys q
  hole_alike x c =
      let p = free_there (free authority keys q) refl in
      let over : covers p.0 q ≡ true = (and_parts (covers p.0 q) _ (hole_is_free authority keys q p.0 inside p.1)).0 in
      ap (λ (o : Option (List ℕ)). unwrap_or o x) (hole_of_all authority keys q x p.0 p.1 (covers_trans p.0 q x over c))
      ∙ sym (ap (λ (o : Option (List ℕ)). unwrap_or o q) p.1)

-- ---- an assignment

module _ (r : Register) (q : List ℕ) (whole : is_undivided (keys_of r) q ≡ true) where
  zone_not_below : (z : Zone) → IsIn z r.zones → is_strictly_below z.prefix q ≡ false
  zone_not_below z k = not-true (is_strictly_below z.prefix q) (holds_at (λ (p : List ℕ). not (is_strictly_below p q)) (keys_of r) z.prefix whole
      (in_first (map zone_prefix r.zones) (map site_prefix r.sites) z.prefix (map_in zone_prefix r.zones z k)))

  site_not_below : (s : Site) → IsIn s r.sites → is_strictly_below s.prefix q ≡ false
  site_not_below s k = not-true (is_strictly_below s.prefix q) (holds_at (λ (p : List ℕ). not (is_strictly_below p q)) (keys_of r) s.prefix whole
      (in_second (map zone_prefix r.zones) (map site_prefix r.sites) s.prefix (map_in site_prefix r.sites s k)))

  -- what overlaps q and is longer than the best match of q doesn't exist
  beyond : {A : Type 0} (prefix : A → List ℕ) (items : List A) (a b : A) → best_match Longest prefix items q ≡ Some a → IsIn b items
      → is_strictly_below (prefix b) q ≡ false → is_strictly_below (prefix b) (prefix a) ≡ true → overlaps (prefix b) q ≡ false
  beyond prefix items a b at k not_below below = false_from_ne_true (overlaps (prefix b) q) (λ o.
      let le : length (prefix b) ≤ length (prefix a) = best_unbeaten Longest prefix q items a b at k (overlap_covers (prefix b) q not_below o) in
      let lt : length (prefix a) < length (prefix b) = (below_parts (prefix b) (prefix a) below).1 in
      omega arith)

  module _ (x : List ℕ) (c : covers q x ≡ true) where
    pub zone_alike : zone_of r x ≡ zone_of r q
    zone_alike = best_match-alike Longest zone_prefix r.zones x q (λ z k. covers_alike z.prefix q x (zone_not_below z k) c)

    pub site_alike : site_of r x ≡ site_of r q
    site_alike = best_match-alike Longest site_prefix r.sites x q (λ s k. covers_alike s.prefix q x (site_not_below s k) c)

    abbrev InMs : Zone → Option Site → List ℕ → Outcome
    InMs z found w = option_map_or (λ s. assigned_site r z s w) found (Hole (hole_of z.prefix (prefixes_in r z Ms) w))

    by_site : (z : Zone) → zone_of r q ≡ Some z → (found : Option Site) → site_of r q ≡ found → InMs z found x ≡ InMs z found q
    by_site z e None at = ap (λ (p : List ℕ). Hole p) (hole_alike z.prefix (prefixes_in r z Ms) q (best_member Longest zone_prefix q r.zones z e).1
        (apart_from_kept site_prefix (λ (s : Site). covers z.prefix s.prefix) r.sites q (λ s k t. false_from_ne_true (overlaps s.prefix q) (λ o.
        best_there Longest site_prefix q r.sites s at k (overlap_covers s.prefix q (site_not_below s k) o)))) x c)
    by_site z e (Some s) at = ap (λ (p : List ℕ). cond (length s.etrs == 0) (NotRegistered p (locators_of r z.group)) (Registered s.prefix (locators_of r z.group)))
        (hole_alike s.prefix (prefixes_below_site r s) q (best_member Longest site_prefix q r.sites s at).1
        (apart_from_kept site_prefix (λ (t : Site). is_strictly_below t.prefix s.prefix) r.sites q (λ t k below.
        beyond site_prefix r.sites s t at k (site_not_below t k) below)) x c)

    by_role : (z : Zone) → zone_of r q ≡ Some z → (role : Role) → assigned_in r z role x ≡ assigned_in r z role q
    by_role z e Node = ap (λ (p : List ℕ). Hole p) (hole_alike z.prefix (prefixes_in r z Node) q (best_member Longest zone_prefix q r.zones z e).1
        (apart_from_kept zone_prefix (λ (w : Zone). is_strictly_below w.prefix z.prefix) r.zones q (λ w k below.
        beyond zone_prefix r.zones z w e k (zone_not_below w k) below)) x c)
    by_role z e Ms = ap (λ (found : Option Site). InMs z found x) site_alike ∙ by_site z e (site_of r q) refl

    by_zone : (found : Option Zone) → zone_of r q ≡ found → option_map_or (λ z. assigned_in r z z.kind x) found (Hole []) ≡ option_map_or (λ z. assigned_in r z z.kind q) found (Hole [])
    by_zone None e = refl
    by_zone (Some z) e = by_role z e z.kind

    -- whatever q covers is assigned as q itself
    pub assigned_as_block : assignment r x ≡ assignment r q
    assigned_as_block = ap (λ (found : Option Zone). option_map_or (λ z. assigned_in r z z.kind x) found (Hole [])) zone_alike ∙ by_zone (zone_of r q) refl

pub assigned_alike : (r : Register) (q x y : List ℕ) → is_undivided (keys_of r) q ≡ true → covers q x ≡ true → covers q y ≡ true → assignment r x ≡ assignment r y
assigned_alike r q x y whole c d = assigned_as_block r q whole x c ∙ sym (assigned_as_block r q whole y d)
