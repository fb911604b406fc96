-- The direct children of a zone of DDT nodes: the next zone towards an identifier is one of them, and what overlaps
-- none of them overlaps no zone below.
use Rattle.std.proofs.Common.{◌≡◌, ℕ, ◌<◌, ◌≤◌, Bool, true, false, not, List, length, map, Option, Some, None, refl, sym, ap, ◌∙◌, arith, inl, inr}
use Rattle.std.specs.Prelude.{◌&&◌}
use Rattle.std.specs.List.{list_any, filter}
use Rattle.std.proofs.lemmas.Bool.{cases_lt, and_parts, and_from, both_ways, not-true, not_from_false, false_from_ne_true}
use Rattle.ddt_path.specs.Covers.{covers, overlaps, is_strictly_below}
use Rattle.ddt_path.specs.Free.{overlaps_none}
use Rattle.ddt_path.specs.Matching.{longest_match}
use Rattle.ddt_path.specs.laws.Cover.{covers_self, covers_trans}
use Rattle.ddt_register.specs.declared.zone.Zone.{Zone}
use Rattle.ddt_register.specs.declared.register.Register.{Register}
use Rattle.ddt_check.specs.Says.{next_zone}
use Rattle.ddt_check.specs.Assignment.{prefixes_below}
use Rattle.ddt_check.specs.Rules.{IsAccepted}
use Rattle.ddt_check.specs.laws.Zone.{zone_prefix}
use Rattle.ddt_check.specs.Zones.{is_between, is_direct_child}
use Rattle.ddt_path.specs.laws.Member.{IsIn, iff_same, none_of, fails_at}
use Rattle.ddt_path.specs.declared.matches.Preference.TheVariants.{Longest}
use Rattle.ddt_path.specs.laws.Hole.{apart_from_kept, kept_apart}
use Rattle.ddt_path.specs.laws.Front.{one_front, front_below, below_parts, overlaps_front, apart}
use Rattle.ddt_check.specs.laws.Kept.{one_zone, own_prefix}
use Rattle.ddt_check.specs.laws.Next.{next_is, next_least, no_next}
use Rattle.ddt_path.specs.laws.Filter.{in_filter, filter_in}
use Rattle.ddt_path.specs.laws.Matching.{best_is, best_none}

pub child_parts : (r : Register) (p c : Zone) → is_direct_child r p c ≡ true → (is_strictly_below c.prefix p.prefix ≡ true) × (list_any (is_between p c) r.zones ≡ false)
child_parts r p c e =
    let s = and_parts (is_strictly_below c.prefix p.prefix) (not (list_any (is_between p c) r.zones)) e in
    (s.0, not-true (list_any (is_between p c) r.zones) s.1)

-- no zone is between a zone and the next one
none_between : (r : Register) (p c : Zone) (x : List ℕ) → next_zone r (length p.prefix) x ≡ Some c → list_any (is_between p c) r.zones ≡ false
none_between r p c x e =
    none_of (is_between p c) r.zones (λ y k. false_from_ne_true (is_between p c y) (λ between.
    let s = and_parts (is_strictly_below y.prefix p.prefix) (is_strictly_below c.prefix y.prefix) between in
    let above = below_parts y.prefix p.prefix s.0 in
    let under = below_parts c.prefix y.prefix s.1 in
    let le = next_least r (length p.prefix) x c y e k (covers_trans y.prefix c.prefix x under.0 (next_is r (length p.prefix) x c e).2) above.1 in
    absurd (omega (arith, under.1))))

next_is_child : (r : Register) (p c : Zone) (x : List ℕ) → covers p.prefix x ≡ true → next_zone r (length p.prefix) x ≡ Some c → is_direct_child r p c ≡ true
next_is_child r p c x inside e =
    let n = next_is r (length p.prefix) x c e in
    and_from (is_strictly_below c.prefix p.prefix) (not (list_any (is_between p c) r.zones)) (front_below p.prefix c.prefix x inside n.2 n.1)
    (not_from_false (list_any (is_between p c) r.zones) (none_between r p c x e))

children_of_none : (r : Register) (p : Zone) (x : List ℕ) → next_zone r (length p.prefix) x ≡ None → longest_match zone_prefix (filter (is_direct_child r p) r.zones) x ≡ None
children_of_none r p x e =
    best_none Longest zone_prefix x (filter (is_direct_child r p) r.zones) (λ b k. false_from_ne_true (covers b.prefix x) (λ c.
    let q = in_filter (is_direct_child r p) r.zones b k in
    let below = below_parts b.prefix p.prefix (child_parts r p b q.1).0 in
    let le = no_next r (length p.prefix) x b e q.0 c in
    absurd (omega (arith, below.1))))

child_of_next : (r : Register) → IsAccepted r → (p c : Zone) (x : List ℕ) → covers p.prefix x ≡ true → next_zone r (length p.prefix) x ≡ Some c → longest_match zone_prefix (filter (is_direct_child r p) r.zones) x ≡ Some c
child_of_next r accepted p c x inside e =
    let n = next_is r (length p.prefix) x c e in
    let direct = next_is_child r p c x inside e in
    best_is Longest zone_prefix x (filter (is_direct_child r p) r.zones) c (filter_in (is_direct_child r p) r.zones c n.0 direct) n.2 (λ b k d.
    let q = in_filter (is_direct_child r p) r.zones b k in
    let s = child_parts r p b q.1 in
    let le = next_least r (length p.prefix) x c b e q.0 d (below_parts b.prefix p.prefix s.0).1 in
    elim (cases_lt (length c.prefix) (length b.prefix)) [
      | inl lt ↦ absurd (both_ways (is_between p b c) (fails_at (is_between p b) r.zones c s.1 n.0)
          (and_from (is_strictly_below c.prefix p.prefix) (is_strictly_below b.prefix c.prefix) (child_parts r p c direct).0 (front_below c.prefix b.prefix x n.2 d lt)))
      | inr ge ↦ inl (one_zone r accepted b c q.0 n.0 (one_front b.prefix c.prefix x d n.2 (omega arith)))
    ])

-- the longest child towards an identifier is the next zone
pub longest_child : (r : Register) → IsAccepted r → (p : Zone) (x : List ℕ) → covers p.prefix x ≡ true → longest_match zone_prefix (filter (is_direct_child r p) r.zones) x ≡ next_zone r (length p.prefix) x
longest_child r accepted p x inside = go (next_zone r (length p.prefix) x) refl
  where
    go : (found : Option Zone) → next_zone r (length p.prefix) x ≡ found → longest_match zone_prefix (filter (is_direct_child r p) r.zones) x ≡ next_zone r (length p.prefix) x
    go None e = children_of_none r p x e ∙ sym e
    go (Some c) e = child_of_next r accepted p c x inside e ∙ sym e

-- each zone below lies in a child
pub child_above : (r : Register) (p z : Zone) → IsIn z r.zones → is_strictly_below z.prefix p.prefix ≡ true → (c : Zone) × IsIn c r.zones × (is_direct_child r p c ≡ true) × (covers c.prefix z.prefix ≡ true)
child_above r p z k below = go (next_zone r (length p.prefix) z.prefix) refl
  where
    go : (found : Option Zone) → next_zone r (length p.prefix) z.prefix ≡ found → (c : Zone) × IsIn c r.zones × (is_direct_child r p c ≡ true) × (covers c.prefix z.prefix ≡ true)
    go None e =
        let le = no_next r (length p.prefix) z.prefix z e k (covers_self z.prefix) in
        let lt = (below_parts z.prefix p.prefix below).1 in
        absurd (omega arith)
    go (Some c) e =
        let n = next_is r (length p.prefix) z.prefix c e in
        (c, n.0, next_is_child r p c z.prefix (below_parts z.prefix p.prefix below).0 e, n.2)

pub same_free : (r : Register) (p : Zone) (q : List ℕ) → overlaps_none (map zone_prefix (filter (is_direct_child r p) r.zones)) q ≡ overlaps_none (prefixes_below r p) q
same_free r p q =
    let below = (λ (y : Zone). is_strictly_below y.prefix p.prefix) in
    iff_same (overlaps_none (map zone_prefix (filter (is_direct_child r p) r.zones)) q) (overlaps_none (prefixes_below r p) q)
    (λ e. apart_from_kept zone_prefix below r.zones q (λ z k t. false_from_ne_true (overlaps z.prefix q) (λ o.
    let c = child_above r p z k t in
    both_ways (overlaps c.0.prefix q) (kept_apart zone_prefix (is_direct_child r p) r.zones q e c.0 c.1 c.2) (overlaps_front c.0.prefix z.prefix q c.3 o))))
    (λ e. apart_from_kept zone_prefix (is_direct_child r p) r.zones q (λ z k t. kept_apart zone_prefix below r.zones q e z k (child_parts r p z t).0))

-- a zone has one parent: of two zones above it the longer would be between
no_longer_parent : (r : Register) (a b c : Zone) → IsIn b r.zones → is_direct_child r a c ≡ true → is_direct_child r b c ≡ true → length b.prefix ≤ length a.prefix
no_longer_parent r a b c k da db =
    let s = child_parts r a c da in
    let t = child_parts r b c db in
    elim (cases_lt (length a.prefix) (length b.prefix)) [
      | inl lt ↦ absurd (both_ways (is_between a c b) (fails_at (is_between a c) r.zones b s.1 k)
          (and_from (is_strictly_below b.prefix a.prefix) (is_strictly_below c.prefix b.prefix)
          (front_below a.prefix b.prefix c.prefix (below_parts c.prefix a.prefix s.0).0 (below_parts c.prefix b.prefix t.0).0 lt) t.0))
      | inr le ↦ le
    ]

pub one_parent : (r : Register) → IsAccepted r → (a b c : Zone) → IsIn a r.zones → IsIn b r.zones → is_direct_child r a c ≡ true → is_direct_child r b c ≡ true → a ≡ b
one_parent r accepted a b c j k da db =
    let up = no_longer_parent r b a c j db da in
    let down = no_longer_parent r a b c k da db in
    one_zone r accepted a b j k (one_front a.prefix b.prefix c.prefix
    (below_parts c.prefix a.prefix (child_parts r a c da).0).0 (below_parts c.prefix b.prefix (child_parts r b c db).0).0 (omega arith))

-- two children of a zone do not overlap
not_between : (r : Register) (z c y : Zone) → is_direct_child r z c ≡ true → is_direct_child r z y ≡ true → IsIn y r.zones → is_strictly_below c.prefix y.prefix ≡ false
not_between r z c y direct other k =
    let p = child_parts r z c direct in
    let q = child_parts r z y other in
    let e = fails_at (is_between z c) r.zones y p.1 k in
    ap (λ (b : Bool). b && is_strictly_below c.prefix y.prefix) (sym q.0) ∙ e

pub children_apart : (r : Register) → IsAccepted r → (z a b : Zone) → is_direct_child r z a ≡ true → is_direct_child r z b ≡ true → IsIn a r.zones → IsIn b r.zones → a.row < b.row → overlaps a.prefix b.prefix ≡ false
children_apart r accepted z a b da db j k lt =
    apart a.prefix b.prefix (not_between r z a b da db k) (not_between r z b a db da j) (own_prefix r accepted a b j k lt)
