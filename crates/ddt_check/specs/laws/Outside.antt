-- The longest zone of a prefix, where each prefix has one zone and none is below one of Map-Servers: the last zone that
-- sorts at or before the prefix, if it is of Map-Servers and covers it.
use Rattle.std.proofs.Common.{◌≡◌, ℕ, ◌+◌, ◌<◌, Bool, true, false, not, List, length, get_or, IsPermutation, Option, Some, None, inl, inr, refl, sym, ap, subst, ◌∙◌, arith}
use Rattle.std.specs.Prelude.{◌&&◌}
use Rattle.std.specs.List.Sorted.{IsPartitionedBy, IsPartitionPoint}
use Rattle.std.specs.Option.{option_map_or}
use Rattle.std.specs.Ordering.{nat_cmp, is_le}
use Rattle.std.specs.Cmp.Lexicographic.{slice_cmp}
use Rattle.std.proofs.lemmas.Bool.{both_ways, false_from_ne_true, true_from_ne_false, and_parts, and_from, and_right, cases_lt, not_from_false}
use Rattle.std.proofs.lemmas.List.Sorted.{Contains-permutation, IsPermutation-sym}
use Rattle.ddt_path.specs.Covers.{covers, is_strictly_below}
use Rattle.ddt_path.specs.declared.matches.Preference.TheVariants.{Longest}
use Rattle.ddt_path.specs.laws.Cover.{length-covered, covered_same}
use Rattle.ddt_register.specs.declared.zone.Zone.{Zone}
use Rattle.ddt_register.specs.declared.register.Register.{Register}
use Rattle.ddt_check.specs.declared.fault.Rule.TheVariants as rules
use Rattle.ddt_check.specs.Rules.{broken, is_below_map_server}
use Rattle.ddt_check.specs.Zones.{is_ms, zone_of}
use Rattle.ddt_check.specs.Order.{IsInOrder}
use Rattle.ddt_path.specs.laws.Member.{IsIn, in_at, contained, moved_in, iff_same, in_any}
use Rattle.ddt_register.specs.laws.Rising.{rule_kept}
use Rattle.std.proofs.lemmas.List.{get_or_default}
use Rattle.ddt_path.specs.laws.PathOrder.{IsUpTo, covers-between, covers-up_to, le-is, le-from, up_to_trans}
use Rattle.ddt_path.specs.laws.Front.{front_covers}
use Rattle.ddt_path.specs.laws.Matching.{best_member, best_there, best_unbeaten}
use Rattle.ddt_check.specs.laws.Order.{far}
use Rattle.ddt_check.specs.laws.Kept.{one_zone_if}

-- ---- zones of which each prefix has one, and none is below one of Map-Servers

abbrev prefix : Zone → List ℕ
prefix z = z.prefix

abbrev zone_row : Zone → ℕ
zone_row z = z.row

one_zone : (r : Register) → ((n : ℕ) → broken r rules.DuplicateZone n ≡ false) → (a b : Zone) → IsIn a r.zones
    → IsIn b r.zones → covers a.prefix b.prefix ≡ true → covers b.prefix a.prefix ≡ true → a ≡ b
one_zone r single a b j k e f = one_zone_if r single a b j k (covered_same a.prefix b.prefix e (length-covered b.prefix a.prefix f))

leaf : (r : Register) → ((n : ℕ) → broken r rules.BelowMapServer n ≡ false) → (y z : Zone) → IsIn y r.zones
    → IsIn z r.zones → is_ms y.kind ≡ true → covers y.prefix z.prefix ≡ true → covers z.prefix y.prefix ≡ true
leaf r leaves y z j k ms e =
    true_from_ne_false (covers z.prefix y.prefix) (λ f.
    both_ways (is_below_map_server r z) (rule_kept zone_row (is_below_map_server r) r.zones leaves z k)
    (in_any (λ (y : Zone). is_ms y.kind && is_strictly_below z.prefix y.prefix) r.zones y j
    (and_from (is_ms y.kind) (is_strictly_below z.prefix y.prefix) ms
    (and_from (covers y.prefix z.prefix) (not (covers z.prefix y.prefix)) e
    (not_from_false (covers z.prefix y.prefix) f)))))

outside-not : (o : Option Zone)
    → not (option_map_or (λ (z : Zone). is_ms z.kind) o false) ≡ option_map_or (λ (z : Zone). not (is_ms z.kind)) o true
outside-not None = refl
outside-not (Some z) = refl

module _ (xs : List Zone) (sorted : IsInOrder prefix zone_row xs) (x : List ℕ) where
  abbrev pub is_up_to : Zone → Bool
  is_up_to z = is_le (slice_cmp nat_cmp z.prefix x)

  pub up_to_parted : IsPartitionedBy is_up_to xs
  up_to_parted = λ i j d le inside e.
      le-from (get_or xs i d).prefix x (up_to_trans (get_or xs i d).prefix (get_or xs j d).prefix x
      (far prefix zone_row xs sorted i j d le inside).0 (le-is (get_or xs j d).prefix x e))

  module _ (r : Register) (moved : IsPermutation r.zones xs) (after : ℕ)
      (point : IsPartitionPoint (λ z. is_up_to z ≡ true) (λ z. is_up_to z ≡ false) xs after) where
    -- a zone that covers the prefix sorts before that place
    place_before : (a : Zone) → IsIn a r.zones → covers a.prefix x ≡ true → (d : Zone)
        → (j : ℕ) × (j < after) × (j < length xs) × (a ≡ get_or xs j d)
    place_before a k e d =
        let c = Contains-permutation r.zones xs a moved (contained r.zones a k) in
        let here : a ≡ get_or xs c.0 d = sym c.2 ∙ get_or_default xs c.0 a d c.1 in
        elim (cases_lt c.0 after) [
          | inl before ↦ (c.0, before, c.1, here)
          | inr behind ↦ absurd (both_ways (is_up_to (get_or xs c.0 d)) (point.1 c.0 d behind c.1)
              (subst (λ (z : Zone). is_up_to z ≡ true) here (le-from a.prefix x (covers-up_to a.prefix x e))))
        ]

    none_before : after ≡ 0 → (o : Option Zone) → zone_of r x ≡ o
        → option_map_or (λ (z : Zone). is_ms z.kind) o false ≡ false
    none_before nil None e = refl
    none_before nil (Some a) e =
        let h = best_member Longest prefix x r.zones a e in
        absurd (let p = place_before a h.0 h.1 a in let lt = p.1 in omega arith)

    module _ (single : (n : ℕ) → broken r rules.DuplicateZone n ≡ false)
        (leaves : (n : ℕ) → broken r rules.BelowMapServer n ≡ false) where
      last_tells : (k : ℕ) (d : Zone) → after ≡ k + 1 → k < length xs → (o : Option Zone) → zone_of r x ≡ o
          → (is_ms (get_or xs k d).kind && covers (get_or xs k d).prefix x) ≡ option_map_or
          (λ (z : Zone). is_ms z.kind) o false
      last_tells k d next inside None found =
          let w = get_or xs k d in
          let iw = moved_in xs r.zones (IsPermutation-sym r.zones xs moved) w
          (in_at xs k w inside (get_or_default xs k d w inside)) in
          and_right (is_ms w.kind) (covers w.prefix x)
          (false_from_ne_true (covers w.prefix x) (best_there Longest prefix x r.zones w found iw))
      last_tells k d next inside (Some a) found =
          let h = best_member Longest prefix x r.zones a found in
          let w = get_or xs k d in
          let iw = moved_in xs r.zones (IsPermutation-sym r.zones xs moved) w
          (in_at xs k w inside (get_or_default xs k d w inside)) in
          iff_same (is_ms w.kind && covers w.prefix x) (is_ms a.kind)
          (λ e.
          let p = and_parts (is_ms w.kind) (covers w.prefix x) e in
          let inner = front_covers w.prefix a.prefix x p.1 h.1 (best_unbeaten Longest prefix x r.zones a w found iw p.1) in
          let same = one_zone r single a w h.0 iw (leaf r leaves w a iw h.0 p.0 inner) inner in
          ap (λ (z : Zone). is_ms z.kind) same ∙ p.0)
          (λ ms.
          let j = place_before a h.0 h.1 d in
          let up = subst (λ (z : Zone). IsUpTo z.prefix w.prefix) (sym j.3)
          (far prefix zone_row xs sorted j.0 k d (let lt = j.1 in omega arith) inside).0 in
          let down = le-is w.prefix x (point.0 k d (omega arith) (omega arith)) in
          let inner = covers-between a.prefix w.prefix x up down h.1 in
          let same = one_zone r single a w h.0 iw inner (leaf r leaves a w h.0 iw ms inner) in
          and_from (is_ms w.kind) (covers w.prefix x) (ap (λ (z : Zone). is_ms z.kind) (sym same) ∙ ms)
          (subst (λ (z : Zone). covers z.prefix x ≡ true) same h.1))

      pub outside_at : (k : ℕ) (d : Zone) → after ≡ k + 1 → k < length xs
          → not (is_ms (get_or xs k d).kind && covers (get_or xs k d).prefix x) ≡ option_map_or
          (λ (z : Zone). not (is_ms z.kind)) (zone_of r x) true
      outside_at k d next inside = ap not (last_tells k d next inside (zone_of r x) refl) ∙
          outside-not (zone_of r x)

    pub outside_first : after ≡ 0 → true ≡ option_map_or (λ (z : Zone). not (is_ms z.kind)) (zone_of r x) true
    outside_first nil = sym (ap not (none_before nil (zone_of r x) refl)) ∙ outside-not
        (zone_of r x)
