-- In an accepted register the prefix of a hole, or of a part of a site that isn't registered, is the identifier's block.
use Rattle.std.proofs.Common.{◌≡◌, ◌⊎◌, ℕ, ◌+◌, ◌<◌, ◌≤◌, Bool, true, false, cond, not, ◌==◌, List, [], ◌∷◌, ◌++◌, length, map, find, Option, Some, None, refl, sym, ap, subst, ◌∙◌, arith, inl, inr}
use Rattle.std.specs.List.{filter}
use Rattle.std.specs.Option.{option_map_or}
use Rattle.std.proofs.lemmas.Bool.{cases_lt, both_ways, false_from_ne_true, or_cases, or_left, or_right, not-true, not_from_false, true≢false, cond-true, cond-false, and_parts}
use Rattle.std.proofs.lemmas.Option.{same_Some, none-some}
use Rattle.std.proofs.lemmas.List.{append_assoc, append-nil}
use Rattle.ddt_path.specs.declared.locator.Locator.{Locator}
use Rattle.ddt_path.specs.declared.record.Role.{Role}
use Rattle.ddt_path.specs.declared.record.Role.TheVariants.{Node, Ms}
use Rattle.ddt_path.specs.declared.record.Outcome.{Outcome}
use Rattle.ddt_path.specs.declared.record.Outcome.TheVariants.{Registered, NotRegistered, Hole}
use Rattle.ddt_path.specs.declared.matches.Preference.TheVariants.{Longest}
use Rattle.ddt_path.specs.Covers.{covers, overlaps, is_strictly_below}
use Rattle.ddt_path.specs.Free.{lengthened, overlaps_none, free, hole_of}
use Rattle.ddt_path.specs.Path.{is_path}
use Rattle.ddt_path.specs.laws.Cover.{covers_self, covers_trans, covers-append, covered_same, length-covered, below_from, below_wider}
use Rattle.ddt_path.specs.laws.Front.{front_below, front_covers, below_parts}
use Rattle.ddt_path.specs.laws.Hole.{parts_from_fits, hole_of_all, hole_is_free}
use Rattle.ddt_path.specs.laws.Matching.{best_member, best_there, best_unbeaten}
use Rattle.ddt_path.specs.laws.Member.{IsIn, all_of, holds_at, in_map, map_in, some_passes}
use Rattle.ddt_path.specs.laws.Filter.{in_filter, filter_in}
use Rattle.ddt_register.specs.declared.zone.Zone.{Zone}
use Rattle.ddt_register.specs.declared.site.Site.{Site}
use Rattle.ddt_register.specs.declared.register.Register.{Register}
use Rattle.ddt_register.specs.laws.Rising.{rule_kept}
use Rattle.ddt_check.specs.declared.fault.Rule.TheVariants as rules
use Rattle.ddt_check.specs.Zones.{is_ms, zone_of, site_of, locators_of}
use Rattle.ddt_check.specs.Assignment.{assignment, assigned_in, assigned_site, part_of_site, prefixes_in, prefixes_below_site}
use Rattle.ddt_check.specs.Rules.{IsAccepted, is_outside}
use Rattle.ddt_check.specs.laws.Statements.{negative_prefix}
use Rattle.ddt_check.specs.laws.Free.{hole_is_free_in, part_is_free_in}
use Rattle.ddt_check.specs.laws.Kept.{one_zone}
use Rattle.ddt_check.specs.laws.Site.{no_longer_zone, site_inside}
use Rattle.ddt_check.specs.laws.Zone.{zone_prefix, site_prefix, assigned_at}
use Rattle.ddt_plan.specs.Blocks.{keys_of, is_undivided, block_of}
use Rattle.ddt_plan.proofs.AlikeLemmas.{in_first, in_second, free_there}

-- ---- the first front that isn't divided

module _ (keys : List (List ℕ)) (q : List ℕ) (whole : is_undivided keys q ≡ true) (divided : (f : List ℕ) → covers f q ≡ true → length f < length q → is_undivided keys f ≡ false) where
  found_from : (f r : List ℕ) → covers f q ≡ true → covers q (f ++ r) ≡ true → find (is_undivided keys) (lengthened f r) ≡ Some q
  found_from f [] c d =
      let back : covers q f ≡ true = subst (λ (l : List ℕ). covers q l ≡ true) (append-nil f) d in
      let same : f ≡ q = covered_same f q c (length-covered q f back) in
      cond-true (is_undivided keys f) (Some f) None (ap (is_undivided keys) same ∙ whole) ∙ ap (λ (l : List ℕ). Some l) same
  found_from f (e ∷ r) c d =
      elim (cases_lt (length f) (length q)) [
        | inl lt ↦
            let longer : covers (f ++ e ∷ []) q ≡ true = front_covers (f ++ e ∷ []) q (f ++ e ∷ r)
            (subst (λ (l : List ℕ). covers (f ++ e ∷ []) l ≡ true) (append_assoc f (e ∷ []) r) (covers-append (f ++ e ∷ []) r)) d
            (one_more f e lt) in
            cond-false (is_undivided keys f) (Some f) (find (is_undivided keys) (lengthened (f ++ e ∷ []) r)) (divided f c lt)
            ∙ found_from (f ++ e ∷ []) r longer (subst (λ (l : List ℕ). covers q l ≡ true) (sym (append_assoc f (e ∷ []) r)) d)
        | inr le ↦
            let same : f ≡ q = covered_same f q c le in
            cond-true (is_undivided keys f) (Some f) (find (is_undivided keys) (lengthened (f ++ e ∷ []) r)) (ap (is_undivided keys) same ∙ whole) ∙ ap (λ (l : List ℕ). Some l) same
      ]
    where
      one_more : (f : List ℕ) (e : ℕ) → length f < length q → length (f ++ e ∷ []) ≤ length q
      one_more f e lt = omega (arith, length-one f e)
        where
          length-one : (f : List ℕ) (e : ℕ) → length (f ++ e ∷ []) ≡ length f + 1
          length-one [] e = refl
          length-one (h ∷ f) e = omega (arith, length-one f e)

  pub block_is : (x : List ℕ) → covers q x ≡ true → block_of keys x ≡ Some q
  block_is x c = ap (find (is_undivided keys)) (parts_from_fits 0 x (omega arith)) ∙ found_from [] x refl c

-- a key strictly below divides
divides : (keys : List (List ℕ)) (k q : List ℕ) → IsIn k keys → is_strictly_below k q ≡ true → is_undivided keys q ≡ false
divides keys k q j below = false_from_ne_true (is_undivided keys q) (λ e.
    both_ways (is_strictly_below k q) (not-true (is_strictly_below k q) (holds_at (λ (k : List ℕ). not (is_strictly_below k q)) keys k e j)) below)

-- ---- what is free and least specific inside an authority that is a key

module _ (keys K : List (List ℕ)) (authority x q : List ℕ) (at : IsIn authority keys) (inside : covers authority x ≡ true)
    (members : (m : List ℕ) → IsIn m K → IsIn m keys) (uncovered : (m : List ℕ) → IsIn m K → covers m x ≡ true → ⊥)
    (others : (k : List ℕ) → IsIn k keys → is_strictly_below k q ≡ true → (m : List ℕ) × IsIn m K × (overlaps m q ≡ true))
    (found : free authority K x ≡ Some q) where
  parts : (covers q x ≡ true) × (covers authority q ≡ true) × (overlaps_none K q ≡ true)
  parts =
      let s = and_parts (covers q x) _ (hole_is_free authority K x q inside found) in
      let t = and_parts (covers authority q) (overlaps_none K q) s.1 in
      (s.0, t.0, t.1)

  whole : is_undivided keys q ≡ true
  whole = all_of (λ (k : List ℕ). not (is_strictly_below k q)) keys (λ k j. not_from_false (is_strictly_below k q) (false_from_ne_true (is_strictly_below k q) (λ below.
      let m = others k j below in
      both_ways (overlaps m.0 q) (not-true (overlaps m.0 q) (holds_at (λ (p : List ℕ). not (overlaps p q)) K m.0 parts.2 m.1)) m.2)))

  -- a shorter front inside the authority overlaps a member
  earlier : (f : List ℕ) → covers f q ≡ true → length f < length q → covers authority f ≡ true → overlaps_none K f ≡ false
  earlier f c lt over = false_from_ne_true (overlaps_none K f) (λ clear.
      let p = free_there authority K f over clear (free authority K f) refl in
      let up : covers p.0 f ≡ true = (and_parts (covers p.0 f) _ (hole_is_free authority K f p.0 over p.1)).0 in
      let all = hole_of_all authority K f x p.0 p.1 (covers_trans p.0 f x up (covers_trans f q x c parts.0)) in
      let same : p.0 ≡ q = same_Some p.0 q (sym all ∙ found) in
      let short = length-covered p.0 f up in
      absurd (omega (arith, ap (λ (l : List ℕ). length l) same)))

  divided : (f : List ℕ) → covers f q ≡ true → length f < length q → is_undivided keys f ≡ false
  divided f c lt =
      let d : covers f x ≡ true = covers_trans f q x c parts.0 in
      elim (cases_lt (length f) (length authority)) [
        | inl short ↦ divides keys authority f at (front_below f authority x d inside short)
        | inr long ↦
            let m = some_passes (λ (p : List ℕ). overlaps p f) K (earlier f c lt (front_covers authority f x inside d long)) in
            elim (or_cases (covers m.0 f) (covers f m.0) m.2) [
              | inl up ↦ absurd (uncovered m.0 m.1 (covers_trans m.0 f x up d))
              | inr down ↦ elim (covers m.0 f) as (λ b. covers m.0 f ≡ b → is_undivided keys f ≡ false) [
                | true ↦ λ up. absurd (uncovered m.0 m.1 (covers_trans m.0 f x up d))
                | false ↦ λ up. divides keys m.0 f (members m.0 m.1) (below_from m.0 f down up)
              ] refl
            ]
      ]

  pub block_from_free : block_of keys x ≡ Some q
  block_from_free = block_is keys q whole divided x parts.0

-- ---- zones and sites

role_is_ms : (role : Role) → not (is_ms role) ≡ false → role ≡ Ms
role_is_ms Node e = absurd (true≢false e)
role_is_ms Ms e = refl

node_is_not_ms : (z w : Zone) → z.kind ≡ Node → w.kind ≡ Ms → w ≡ z → ⊥
node_is_not_ms z w node ms same = let e : Ms ≡ Node = sym ms ∙ ap (λ (y : Zone). y.kind) same ∙ node in cc

module _ (r : Register) (accepted : IsAccepted r) where
  abbrev zone_keys : List (List ℕ)
  zone_keys = map zone_prefix r.zones

  abbrev site_keys : List (List ℕ)
  site_keys = map site_prefix r.sites

  zone_in_keys : (z : Zone) → IsIn z r.zones → IsIn z.prefix (keys_of r)
  zone_in_keys z k = in_first zone_keys site_keys z.prefix (map_in zone_prefix r.zones z k)

  site_in_keys : (s : Site) → IsIn s r.sites → IsIn s.prefix (keys_of r)
  site_in_keys s k = in_second zone_keys site_keys s.prefix (map_in site_prefix r.sites s k)

  -- a key is the prefix of a zone or of a site
  abbrev IsKey : List ℕ → Type 0
  IsKey k = ((z : Zone) × IsIn z r.zones × (k ≡ z.prefix)) ⊎ ((s : Site) × IsIn s r.sites × (k ≡ s.prefix))

  key_is : (k : List ℕ) → IsIn k (keys_of r) → IsKey k
  key_is k j = elim (either zone_keys site_keys k j) [
    | inl a ↦ inl (in_map zone_prefix r.zones k a)
    | inr b ↦ inr (in_map site_prefix r.sites k b)
  ]
    where
      either : (xs ys : List (List ℕ)) (a : List ℕ) → IsIn a (xs ++ ys) → IsIn a xs ⊎ IsIn a ys
      either [] ys a k = inr k
      either (x ∷ xs) ys a (inl same) = inl (inl same)
      either (x ∷ xs) ys a (inr later) = elim (either xs ys a later) [ inl k ↦ inl (inr k) | inr k ↦ inr k ]

  -- a zone of Map-Servers covers each site
  zone_of_site : (s : Site) → IsIn s r.sites → (w : Zone) × IsIn w r.zones × (covers w.prefix s.prefix ≡ true) × (w.kind ≡ Ms)
  zone_of_site s k = go (zone_of r s.prefix) refl (rule_kept (λ (t : Site). t.row) (is_outside r) r.sites (accepted rules.SiteOutside) s k)
    where
      go : (found : Option Zone) → zone_of r s.prefix ≡ found → option_map_or (λ (z : Zone). not (is_ms z.kind)) found true ≡ false → (w : Zone) × IsIn w r.zones × (covers w.prefix s.prefix ≡ true) × (w.kind ≡ Ms)
      go None e inside = absurd (true≢false inside)
      go (Some w) e inside =
          let p = best_member Longest zone_prefix s.prefix r.zones w e in
          (w, p.0, p.1, role_is_ms w.kind inside)

  none_below : (p z : Zone) → IsIn p r.zones → p.kind ≡ Ms → IsIn z r.zones → is_strictly_below z.prefix p.prefix ≡ true → ⊥
  none_below p z j ms k below =
      let b = below_parts z.prefix p.prefix below in
      let le : length z.prefix ≤ length p.prefix = no_longer_zone r accepted p z z.prefix j ms b.0 k (covers_self z.prefix) in
      let lt : length p.prefix < length z.prefix = b.1 in
      omega arith

  module _ (x q : List ℕ) (z : Zone) (here : zone_of r x ≡ Some z) where
    k : IsIn z r.zones
    k = (best_member Longest zone_prefix x r.zones z here).0

    c : covers z.prefix x ≡ true
    c = (best_member Longest zone_prefix x r.zones z here).1

    -- what is longer than the zone and covers x isn't a zone
    longest : (w : Zone) → IsIn w r.zones → is_strictly_below w.prefix z.prefix ≡ true → covers w.prefix x ≡ true → ⊥
    longest w j below d =
        let le : length w.prefix ≤ length z.prefix = best_unbeaten Longest zone_prefix x r.zones z w here j d in
        let lt : length z.prefix < length w.prefix = (below_parts w.prefix z.prefix below).1 in
        omega arith

    inside_of : (K : List (List ℕ)) → free z.prefix K x ≡ Some q → (covers q x ≡ true) × (covers z.prefix q ≡ true)
    inside_of K found =
        let s = and_parts (covers q x) _ (hole_is_free z.prefix K x q c found) in
        (s.0, (and_parts (covers z.prefix q) (overlaps_none K q) s.1).0)

    -- ---- in a zone of DDT nodes
    node_members : (m : List ℕ) → IsIn m (prefixes_in r z Node) → (w : Zone) × IsIn w r.zones × (is_strictly_below w.prefix z.prefix ≡ true) × (m ≡ w.prefix)
    node_members m j =
        let a = in_map zone_prefix (filter (λ (w : Zone). is_strictly_below w.prefix z.prefix) r.zones) m j in
        let f = in_filter (λ (w : Zone). is_strictly_below w.prefix z.prefix) r.zones a.0 a.1 in
        (a.0, f.0, f.1, a.2)

    node_member : (w : Zone) → IsIn w r.zones → is_strictly_below w.prefix z.prefix ≡ true → IsIn w.prefix (prefixes_in r z Node)
    node_member w j below = map_in zone_prefix (filter (λ (w : Zone). is_strictly_below w.prefix z.prefix) r.zones) w (filter_in (λ (w : Zone). is_strictly_below w.prefix z.prefix) r.zones w j below)

    node_others : z.kind ≡ Node → (covers q x ≡ true) → (covers z.prefix q ≡ true) → (k : List ℕ) → IsIn k (keys_of r) → is_strictly_below k q ≡ true
        → (m : List ℕ) × IsIn m (prefixes_in r z Node) × (overlaps m q ≡ true)
    node_others node e inside p j below = elim (key_is p j) [
      | inl a ↦
          let under : is_strictly_below a.0.prefix z.prefix ≡ true = subst (λ (l : List ℕ). is_strictly_below l z.prefix ≡ true) a.2 (below_wider p q z.prefix inside below) in
          (a.0.prefix, node_member a.0 a.1 under, or_right (covers a.0.prefix q) (covers q a.0.prefix) (subst (λ (l : List ℕ). covers q l ≡ true) a.2 (below_parts p q below).0))
      | inr b ↦
          let w = zone_of_site b.0 b.1 in
          let s : covers q b.0.prefix ≡ true = subst (λ (l : List ℕ). covers q l ≡ true) b.2 (below_parts p q below).0 in
          elim (cases_lt (length z.prefix) (length w.0.prefix)) [
            | inl lt ↦
                let under : is_strictly_below w.0.prefix z.prefix ≡ true = front_below z.prefix w.0.prefix b.0.prefix (covers_trans z.prefix q b.0.prefix inside s) w.2 lt in (
                  w.0.prefix,
                  node_member w.0 w.1 under,
                  elim (cases_lt (length q) (length w.0.prefix)) [
                    | inl longer ↦ or_right (covers w.0.prefix q) (covers q w.0.prefix) (front_covers q w.0.prefix b.0.prefix s w.2 (omega arith))
                    | inr shorter ↦ or_left (covers w.0.prefix q) (covers q w.0.prefix) (front_covers w.0.prefix q b.0.prefix w.2 s shorter)
                  ],
                )
            | inr le ↦
                let over : covers w.0.prefix z.prefix ≡ true = front_covers w.0.prefix z.prefix b.0.prefix w.2 (covers_trans z.prefix q b.0.prefix inside s) le in
                elim (cases_lt (length w.0.prefix) (length z.prefix)) [
                  | inl shorter ↦ absurd (none_below w.0 z w.1 w.3 k (front_below w.0.prefix z.prefix z.prefix over (covers_self z.prefix) shorter))
                  | inr ge ↦ absurd (node_is_not_ms z w.0 node w.3 (one_zone r accepted w.0 z w.1 k (covered_same w.0.prefix z.prefix over ge)))
                ]
          ]
    ]

    node_block : z.kind ≡ Node → free z.prefix (prefixes_in r z Node) x ≡ Some q → block_of (keys_of r) x ≡ Some q
    node_block node found =
        let i = inside_of (prefixes_in r z Node) found in
        block_from_free (keys_of r) (prefixes_in r z Node) z.prefix x q (zone_in_keys z k) c
        (λ m j. let w = node_members m j in subst (λ (l : List ℕ). IsIn l (keys_of r)) (sym w.3) (zone_in_keys w.0 w.1))
        (λ m j d. let w = node_members m j in longest w.0 w.1 w.2 (subst (λ (l : List ℕ). covers l x ≡ true) w.3 d))
        (node_others node i.0 i.1) found

    -- ---- in a zone of Map-Servers
    -- a key strictly below what the zone covers is a site's
    ms_key : z.kind ≡ Ms → covers z.prefix q ≡ true → (p : List ℕ) → IsIn p (keys_of r) → is_strictly_below p q ≡ true → (s : Site) × IsIn s r.sites × (p ≡ s.prefix)
    ms_key ms inside p j below = elim (key_is p j) [
      | inl a ↦ absurd (none_below z a.0 k ms a.1 (subst (λ (l : List ℕ). is_strictly_below l z.prefix ≡ true) a.2 (below_wider p q z.prefix inside below)))
      | inr b ↦ b
    ]

    abbrev within : Site → Bool
    within s = covers z.prefix s.prefix

    ms_block : z.kind ≡ Ms → site_of r x ≡ None → free z.prefix (prefixes_in r z Ms) x ≡ Some q → block_of (keys_of r) x ≡ Some q
    ms_block ms none found =
        let i = inside_of (prefixes_in r z Ms) found in
        block_from_free (keys_of r) (prefixes_in r z Ms) z.prefix x q (zone_in_keys z k) c
        (λ m j. let a = in_map site_prefix (filter within r.sites) m j in
        subst (λ (l : List ℕ). IsIn l (keys_of r)) (sym a.2) (site_in_keys a.0 (in_filter within r.sites a.0 a.1).0))
        (λ m j d. let a = in_map site_prefix (filter within r.sites) m j in
        best_there Longest site_prefix x r.sites a.0 none (in_filter within r.sites a.0 a.1).0 (subst (λ (l : List ℕ). covers l x ≡ true) a.2 d))
        (λ p j below.
        let s = ms_key ms i.1 p j below in
        let down : covers q s.0.prefix ≡ true = subst (λ (l : List ℕ). covers q l ≡ true) s.2 (below_parts p q below).0 in (
          s.0.prefix,
          map_in site_prefix (filter within r.sites) s.0 (filter_in within r.sites s.0 s.1 (covers_trans z.prefix q s.0.prefix i.1 down)),
          or_right (covers s.0.prefix q) (covers q s.0.prefix) down,
        ))
        found

    part_block : z.kind ≡ Ms → (s : Site) → site_of r x ≡ Some s → free s.prefix (prefixes_below_site r s) x ≡ Some q → block_of (keys_of r) x ≡ Some q
    part_block ms s there found =
        let t = best_member Longest site_prefix x r.sites s there in
        let under : Site → Bool = λ (u : Site). is_strictly_below u.prefix s.prefix in
        let e = and_parts (covers q x) _ (hole_is_free s.prefix (prefixes_below_site r s) x q t.1 found) in
        let inside : covers s.prefix q ≡ true = (and_parts (covers s.prefix q) _ e.1).0 in
        let over : covers z.prefix q ≡ true = covers_trans z.prefix s.prefix q (site_inside r accepted z s x k c t.0 t.1) inside in
        block_from_free (keys_of r) (prefixes_below_site r s) s.prefix x q (site_in_keys s t.0) t.1
        (λ m j. let a = in_map site_prefix (filter under r.sites) m j in
        subst (λ (l : List ℕ). IsIn l (keys_of r)) (sym a.2) (site_in_keys a.0 (in_filter under r.sites a.0 a.1).0))
        (λ m j d.
        let a = in_map site_prefix (filter under r.sites) m j in
        let f = in_filter under r.sites a.0 a.1 in
        let le : length a.0.prefix ≤ length s.prefix = best_unbeaten Longest site_prefix x r.sites s a.0 there f.0 (subst (λ (l : List ℕ). covers l x ≡ true) a.2 d) in
        let lt : length s.prefix < length a.0.prefix = (below_parts a.0.prefix s.prefix f.1).1 in
        omega arith)
        (λ p j below.
        let u = ms_key ms over p j below in (
          u.0.prefix,
          map_in site_prefix (filter under r.sites) u.0 (filter_in under r.sites u.0 u.1 (subst (λ (l : List ℕ). is_strictly_below l s.prefix ≡ true) u.2 (below_wider p q s.prefix inside below))),
          or_right (covers u.0.prefix q) (covers q u.0.prefix) (subst (λ (l : List ℕ). covers q l ≡ true) u.2 (below_parts p q below).0),
        ))
        found

  -- ---- by the outcome
  module _ (x : List ℕ) (e : is_path x ≡ true) where
    hole_case : (z : Zone) → zone_of r x ≡ Some z → (p : List ℕ) (role : Role) → z.kind ≡ role → assigned_in r z role x ≡ Hole p → free z.prefix (prefixes_in r z role) x ≡ Some p → block_of (keys_of r) x ≡ Some p
    hole_case z here p Node kind is found = node_block x p z here kind found
    hole_case z here p Ms kind is found = ms_block x p z here kind (unsited (site_of r x) is) found
      where
        not_hole : (s : Site) (b : Bool) → cond b (NotRegistered (part_of_site r s x) (locators_of r z.group)) (Registered s.prefix (locators_of r z.group)) ≡ Hole p → ⊥
        not_hole s true is = cc
        not_hole s false is = cc

        unsited : (found : Option Site) → option_map_or (λ s. assigned_site r z s x) found (Hole (hole_of z.prefix (prefixes_in r z Ms) x)) ≡ Hole p → found ≡ None
        unsited None is = refl
        unsited (Some s) is = absurd (not_hole s (length s.etrs == 0) is)

    part_kind : (z : Zone) (p : List ℕ) (servers : List Locator) (role : Role) → assigned_in r z role x ≡ NotRegistered p servers → role ≡ Ms
    part_kind z p servers Node is = absurd cc
    part_kind z p servers Ms is = refl

    by_outcome : (q : List ℕ) (o : Outcome) → assignment r x ≡ o → negative_prefix o ≡ Some q → block_of (keys_of r) x ≡ Some q
    by_outcome q (Registered p servers) is negative = absurd (none-some q negative)
    by_outcome q (NotRegistered p servers) is negative =
        let part = part_is_free_in r accepted x p servers e is in
        let z = part.zone in
        let ms = part_kind z p servers z.kind (sym (assigned_at r x z part.its_zone) ∙ is) in
        part_block x p z part.its_zone ms part.site part.its_site part.is_free ∙ negative
    by_outcome q (Hole p) is negative =
        let hole = hole_is_free_in r accepted x p e is in
        hole_case hole.0 hole.1 p hole.0.kind refl (sym (assigned_at r x hole.0 hole.1) ∙ is) hole.2 ∙ negative

    pub negative_is_block : (q : List ℕ) → negative_prefix (assignment r x) ≡ Some q → block_of (keys_of r) x ≡ Some q
    negative_is_block q negative = by_outcome q (assignment r x) refl negative
