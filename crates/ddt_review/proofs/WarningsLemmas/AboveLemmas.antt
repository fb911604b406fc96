-- The zone directly above another is the longest that covers all digits of its prefix but the last.
use Rattle.std.proofs.Common.{◌≡◌, ℕ, ◌-◌, ◌<◌, Bool, true, not, List, length, take, Option, Some, None, refl, sym, ap, ◌∙◌, arith, inl, inr}
use Rattle.std.specs.Prelude.{◌≢◌}
use Rattle.std.specs.List.{list_any}
use Rattle.std.proofs.lemmas.Bool.{cases_lt, and_parts, and_from, not_from_false, false_from_ne_true}
use Rattle.std.proofs.lemmas.List.{length-take}
use Rattle.ddt_path.specs.Covers.{covers, is_strictly_below}
use Rattle.ddt_path.specs.Matching.{longest_match}
use Rattle.ddt_path.specs.declared.matches.Preference.TheVariants.{Longest}
use Rattle.ddt_path.specs.laws.Cover.{covers_self, covers_trans, front_covered, length-covered}
use Rattle.ddt_path.specs.laws.Front.{front_covers, front_below, below_parts}
use Rattle.ddt_path.specs.laws.Member.{IsIn, in_contained, none_of, found_in, found_none, found_passes}
use Rattle.ddt_path.specs.laws.Matching.{best_member, best_unbeaten, best_there}
use Rattle.ddt_register.specs.declared.zone.Zone.{Zone}
use Rattle.ddt_register.specs.declared.site.Site.{Site}
use Rattle.ddt_register.specs.declared.register.Register.{Register}
use Rattle.ddt_check.specs.Rules.{IsAccepted}
use Rattle.ddt_check.specs.Zones.{is_between, is_direct_child}
use Rattle.ddt_check.specs.laws.Zone.{zone_prefix}
use Rattle.ddt_check.specs.laws.Child.{child_parts, one_parent}
use Rattle.ddt_check.specs.laws.Kept.{one_zone, one_site}
use Rattle.ddt_review.specs.Warnings.Found.{HaveOwnPrefixes}
use Rattle.ddt_review.specs.Warnings.Warnings.{zone_above}
use Rattle.ddt_review.proofs.WarningsLemmas.KeptLemmas.{found_some}

abbrev is_above : Register → Zone → Zone → Bool
is_above r z p = is_direct_child r p z

pub above_root : (r : Register) (z : Zone) → length z.prefix ≡ 0 → zone_above r z ≡ None
above_root r z e = found_none (is_above r z) r.zones (λ p k. false_from_ne_true (is_direct_child r p z) (λ direct.
    let lt = (below_parts z.prefix p.prefix (child_parts r p z direct).0).1 in
    absurd (omega arith)))

-- a zone that is above another is the one that is found
pub above_found : (r : Register) → IsAccepted r → (z p : Zone) → IsIn p r.zones → is_direct_child r p z ≡ true
    → zone_above r z ≡ Some p
above_found r accepted z p k direct =
    let f = found_some (is_above r z) r.zones p k direct in
    f.1 ∙ ap (λ (y : Zone). Some y) (one_parent r accepted f.0 p z (found_in (is_above r z) r.zones f.0 f.1) k
    (found_passes (is_above r z) r.zones f.0 f.1) direct)

module _ (r : Register) (accepted : IsAccepted r) (z : Zone) (front : List ℕ) (some : length z.prefix ≢ 0)
    (is : front ≡ take (length z.prefix - 1) z.prefix) where
  len_front : length front ≡ length z.prefix - 1
  len_front = ap length is ∙ length-take (length z.prefix - 1) z.prefix ∙ omega arith

  front_in : covers front z.prefix ≡ true
  front_in = ap (λ (p : List ℕ). covers p z.prefix) is ∙ front_covered (length z.prefix - 1) z.prefix

  positive : 0 < length z.prefix
  positive = elim (cases_lt 0 (length z.prefix)) [ inl lt ↦ lt | inr le ↦ absurd (some (omega arith)) ]

  -- what covers the zone and is shorter covers the front
  covers_front : (y : Zone) → is_strictly_below z.prefix y.prefix ≡ true → covers y.prefix front ≡ true
  covers_front y below =
      let b = below_parts z.prefix y.prefix below in
      let n = len_front in
      front_covers y.prefix front z.prefix b.0 front_in (omega (arith, b.1))

  direct_is : (p : Zone) → longest_match zone_prefix r.zones front ≡ Some p → is_direct_child r p z ≡ true
  direct_is p e =
      let m = best_member Longest zone_prefix front r.zones p e in
      let short = length-covered p.prefix front m.1 in
      let n = len_front in
      let pos = positive in
      let over : covers p.prefix z.prefix ≡ true = covers_trans p.prefix front z.prefix m.1 front_in in
      and_from (is_strictly_below z.prefix p.prefix) (not (list_any (is_between p z) r.zones))
      (front_below p.prefix z.prefix z.prefix over (covers_self z.prefix) (omega arith))
      (not_from_false (list_any (is_between p z) r.zones) (none_of (is_between p z) r.zones (λ y j.
      false_from_ne_true (is_between p z y) (λ between.
      let s = and_parts (is_strictly_below y.prefix p.prefix) (is_strictly_below z.prefix y.prefix) between in
      let longer = (below_parts y.prefix p.prefix s.0).1 in
      let le = best_unbeaten Longest zone_prefix front r.zones p y e j (covers_front y s.1) in
      absurd (omega arith)))))

  pub above_by_front : longest_match zone_prefix r.zones front ≡ zone_above r z
  above_by_front = go (longest_match zone_prefix r.zones front) refl
    where
      go : (found : Option Zone) → longest_match zone_prefix r.zones front ≡ found → found ≡ zone_above r z
      go None e = sym (found_none (is_above r z) r.zones (λ p k. false_from_ne_true (is_direct_child r p z) (λ direct.
          absurd (best_there Longest zone_prefix front r.zones p e k (covers_front p (child_parts r p z direct).0)))))
      go (Some p) e = sym (above_found r accepted z p (best_member Longest zone_prefix front r.zones p e).0 (direct_is p e))

-- ---- no two zones have one prefix, and no two sites

pub zones_apart : (r : Register) → IsAccepted r → HaveOwnPrefixes (λ (z : Zone). z.prefix) r.zones
zones_apart r accepted a b j k same = one_zone r accepted a b (in_contained r.zones a j) (in_contained r.zones b k) same

pub sites_apart : (r : Register) → IsAccepted r → HaveOwnPrefixes (λ (s : Site). s.prefix) r.sites
sites_apart r accepted a b j k same = one_site r accepted a b (in_contained r.sites a j) (in_contained r.sites b k) same
