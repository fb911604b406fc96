-- Zones in the order of their prefixes: what a zone covers there, and what a walk finds directly below a zone.
use Rattle.std.proofs.Common.{◌≡◌, ℕ, ◌+◌, ◌-◌, ◌<◌, ◌≤◌, Bool, true, false, not, List, [], ◌∷◌, ◌++◌, length, take, drop, get_or, length-drop, inl, inr, sym, ap, subst, ◌∙◌, arith}
use Rattle.std.specs.List.{list_any, filter}
use Rattle.std.specs.List.Sorted.{IsPartitionedBy, IsPartitionPoint}
use Rattle.std.specs.Ordering.{nat_cmp, is_le}
use Rattle.std.specs.Cmp.Lexicographic.{slice_cmp}
use Rattle.std.proofs.lemmas.Bool.{cases_lt, and_parts, and_from, both_ways, not_from_false, false_from_ne_true, eq-eqb}
use Rattle.std.proofs.lemmas.List.{get_or_default, get_or-drop, get_or-take, take-take, length-take}
use Rattle.ddt_path.specs.Covers.{covers, is_strictly_below}
use Rattle.ddt_path.specs.laws.Cover.{below_from, below_is, below_wider, covered_same, length-covered}
use Rattle.ddt_path.specs.laws.Filter.{none_later, none_first, one_kept}
use Rattle.ddt_path.specs.laws.Member.{placed, placed_in, none_of, in_any}
use Rattle.ddt_path.specs.laws.PathOrder.{IsUpTo, covers-between, covers-back, le-is, not_lt-from_not_le, below_behind}
use Rattle.ddt_register.specs.declared.zone.Zone.{Zone}
use Rattle.ddt_register.specs.declared.register.Register.{Register}
use Rattle.ddt_register.specs.laws.Rising.{zones_rise}
use Rattle.ddt_register.specs.laws.RowOrder.{rising_from_rise, rows_apart}
use Rattle.ddt_check.specs.Order.{AreZonesInOrder}
use Rattle.ddt_check.specs.Zones.{is_between, is_direct_child}
use Rattle.ddt_check.specs.laws.Child.{child_parts, child_above}
use Rattle.ddt_check.specs.laws.Kept.{one_zone}
use Rattle.ddt_check.specs.laws.Order.{far}
use Rattle.ddt_check.specs.laws.Outside.{is_up_to}
use Rattle.ddt_compile.specs.Sorted.{AreSortedOf, IsEndOf, covers_at}

-- ---- what a zone covers

module _ (xs : List Zone) (sorted : AreZonesInOrder xs) where
  up : (i k : ℕ) (d : Zone) → i ≤ k → k < length xs → IsUpTo (get_or xs i d).prefix (get_or xs k d).prefix
  up i k d le lt = (far (λ z. z.prefix) (λ z. z.row) xs sorted i k d le lt).0

  module _ (at : ℕ) (w : Zone) (lt : at < length xs) (is : w ≡ get_or xs at w) where
    here : (d : Zone) → get_or xs at d ≡ w
    here d = get_or_default xs at d w lt ∙ sym is

    -- what it covers stands together right behind it
    pub covered_parted : IsPartitionedBy (λ z. covers w.prefix z.prefix) (drop (at + 1) xs)
    covered_parted = λ i j d le inside e.
        let within : at + 1 + j < length xs = omega (arith, length-drop (at + 1) xs) in
        rw get_or-drop (covers-between w.prefix _ _
        (subst (λ (y : Zone). IsUpTo y.prefix (get_or xs (at + 1 + i) d).prefix) (here d) (up at (at + 1 + i) d (omega arith) (omega arith)))
        (up (at + 1 + i) (at + 1 + j) d (omega arith) within) (rw get_or-drop at e))

    pub end_is : (n : ℕ) → n ≤ length (drop (at + 1) xs)
        → IsPartitionPoint (λ z. covers w.prefix z.prefix ≡ true) (λ z. covers w.prefix z.prefix ≡ false) (drop (at + 1) xs) n
        → IsEndOf xs at (at + 1 + n)
    end_is n le point =
        let len = length-drop (at + 1) xs in (
          omega arith,
          omega arith,
          λ k d low high. told k d true (omega arith) (point.0 (k - (at + 1)) d (omega arith) (omega arith)),
          λ k d low high. told k d false (omega arith) (point.1 (k - (at + 1)) d (omega arith) (omega arith)),
        )
      where
        told : (k : ℕ) (d : Zone) (b : Bool) → at + 1 ≤ k → covers w.prefix (get_or (drop (at + 1) xs) (k - (at + 1)) d).prefix ≡ b → covers_at xs at k d ≡ b
        told k d b le e =
            let same : at + 1 + (k - (at + 1)) ≡ k = omega arith in
            rw (here d, ← same) (rw get_or-drop at e)

-- ---- a walk over the zones of an accepted register

-- What is found of the first i zones are those directly below z. None of these covers a zone from i on, and each zone
-- from i on stands behind z.
pub record IsWalk (r : Register) (z : Zone) (xs : List Zone) (i : ℕ) (found : List Zone) : Type 0 where
  pub kept : found ≡ filter (is_direct_child r z) (take i xs)
  pub clear : (j k : ℕ) (d : Zone) → j < i → i ≤ k → k < length xs → is_direct_child r z (get_or xs j d) ≡ true → covers_at xs j k d ≡ false
  pub behind : (k : ℕ) (d : Zone) → i ≤ k → k < length xs → is_le (slice_cmp nat_cmp (get_or xs k d).prefix z.prefix) ≡ false

module _ (r : Register) (z : Zone) (xs : List Zone) (are : AreSortedOf r xs) where
  abbrev direct : Zone → Bool
  direct c = is_direct_child r z c

  direct-covers : (c : Zone) → direct c ≡ true → (covers z.prefix c.prefix ≡ true) × (covers c.prefix z.prefix ≡ false)
  direct-covers c e = below_is c.prefix z.prefix (child_parts r z c e).0

  pub walk_starts : (first : ℕ) → IsPartitionPoint (λ y. is_up_to xs are.2 z.prefix y ≡ true) (λ y. is_up_to xs are.2 z.prefix y ≡ false) xs first
      → (found : List Zone) → found ≡ [] → IsWalk r z xs first found
  walk_starts first point found empty =
      let none = (λ (j : ℕ) (d : Zone) (low : j < first) (lt : j < length xs). false_from_ne_true _ (λ own.
      let c = get_or xs j d in
      let p = direct-covers c own in
      both_ways _ p.1 (covers-back c.prefix z.prefix (le-is c.prefix z.prefix (point.0 j d (omega arith) low)) p.0))) in
      record {
        kept = empty ∙ sym (none_first direct xs first none);
        clear = λ j k d low le lt own. absurd (both_ways _ (none j d low (omega arith)) own);
        behind = point.1;
      }

  module _ (i : ℕ) (found : List Zone) (walk : IsWalk r z xs i found) (lt : i < length xs) where
    -- behind the first zone that isn't covered none is directly below
    pub walk_ends : (w : Zone) → w ≡ get_or xs i w → covers z.prefix w.prefix ≡ false → found ≡ filter direct xs
    walk_ends w is out = walk.kept ∙ none_later direct xs i (λ k d from inside.
        let c = get_or xs k d in
        let at = get_or_default xs i d w lt ∙ sym is in
        false_from_ne_true _ (λ own.
        both_ways _ out (subst (λ (y : Zone). covers z.prefix y.prefix ≡ true) at (covers-between z.prefix (get_or xs i d).prefix c.prefix
        (not_lt-from_not_le _ (walk.behind i d (omega arith) lt)) (up xs are.2 i k d from inside) (direct-covers c own).0))))

    module _ (inside : (d : Zone) → covers z.prefix (get_or xs i d).prefix ≡ true) where
      -- the next zone that is covered is directly below
      direct_here : (d : Zone) → direct (get_or xs i d) ≡ true
      direct_here d =
          let w = get_or xs i d in
          let below = below_behind z.prefix w.prefix (inside d) (walk.behind i d (omega arith) lt) in
          and_from _ _ below (not_from_false _ (none_of (is_between z w) r.zones (λ y k. false_from_ne_true _ (λ between.
          let p = and_parts _ _ between in
          let c = child_above r z y k p.0 in
          let q = below_is w.prefix c.0.prefix (below_wider w.prefix y.prefix c.0.prefix c.3 p.1) in
          let at = placed r.zones xs are.1 c.0 c.1 d in
          elim (cases_lt at.0 i) [
            | inl before ↦ both_ways _
                (subst (λ (y : Zone). covers y.prefix w.prefix ≡ false) (sym at.2)
                (walk.clear at.0 i d before (omega arith) lt (subst (λ (y : Zone). direct y ≡ true) at.2 c.2))) q.0
            | inr behind ↦ both_ways _ q.1
                (covers-back w.prefix c.0.prefix (subst (λ (y : Zone). IsUpTo w.prefix y.prefix) (sym at.2) (up xs are.2 i at.0 d behind at.1)) q.0)
          ]))))

      -- and what that one covers isn't
      indirect_inside : (k : ℕ) (d : Zone) → i < k → k < length xs → covers_at xs i k d ≡ true → direct (get_or xs k d) ≡ false
      indirect_inside k d low high over =
          let w = get_or xs i d in
          let y = get_or xs k d in
          let apart = rows_apart (λ (a : Zone). a.row) r.zones xs (rising_from_rise (λ (a : Zone). a.row) r.zones 0 (zones_rise r)) are.1 i k d low high in
          let in_w = placed_in r.zones xs are.1 i d lt in
          let strict = below_from y.prefix w.prefix over (false_from_ne_true _ (λ back.
          both_ways _ apart (eq-eqb w.row y.row (ap (λ (a : Zone). a.row)
          (one_zone r are.0 w y in_w (placed_in r.zones xs are.1 k d high) (covered_same w.prefix y.prefix over (length-covered y.prefix w.prefix back))))))) in
          false_from_ne_true _ (λ own.
          both_ways _ (child_parts r z y own).1 (in_any (is_between z y) r.zones w in_w (and_from _ _ (child_parts r z w (direct_here d)).0 strict)))

      pub walk_goes : (w : Zone) → w ≡ get_or xs i w → (end : ℕ) → IsEndOf xs i end → (more : List Zone) → more ≡ found ++ w ∷ [] → IsWalk r z xs end more
      walk_goes w is end ends more put =
          record {
            kept = put ∙ ap (λ (ys : List Zone). ys ++ w ∷ []) walk.kept
                ∙ one_kept direct xs i w lt is (subst (λ (y : Zone). direct y ≡ true) (sym is) (direct_here w))
                ∙ ap (filter direct) (sym (take-take (i + 1) end xs (omega (arith, ends.0))))
                ∙ none_later direct (take end xs) (i + 1) (λ k d from within.
                let low : k < end = omega (arith, length-take end xs) in
                let high : k < length xs = omega (arith, length-take end xs) in
                rw (get_or-take end xs k d low) (indirect_inside k d (omega arith) high (ends.2 k d (omega arith) low)));
            clear = λ j k d low from within own. elim (cases_lt j i) [
              | inl before ↦ walk.clear j k d before (omega (arith, ends.0)) within own
              | inr behind ↦ elim (cases_lt i j) [
                | inl inner ↦ absurd (both_ways _ (indirect_inside j d inner (omega arith) (ends.2 j d inner low)) own)
                | inr back ↦ let same : i ≡ j = omega arith in
                    subst (λ (m : ℕ). covers_at xs m k d ≡ false) same (ends.3 k d from within)
              ]
            ];
            behind = λ k d from within. walk.behind k d (omega (arith, ends.0)) within;
          }
