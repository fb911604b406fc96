-- Sites in the order of their prefixes: the neighbours of a site stand beside it.
use Rattle.std.proofs.Common.{◌≡◌, ℕ, ◌+◌, ◌-◌, ◌<◌, ◌≤◌, Bool, true, false, not, List, [], ◌∷◌, length, get_or, map, refl, sym, ap, subst, ◌∙◌, arith, inl, inr, IsPermutation}
use Rattle.std.specs.Prelude.{◌&&◌}
use Rattle.std.specs.List.{list_any}
use Rattle.std.specs.List.Sorted.{IsPartitionPoint, IsPartitionedBy}
use Rattle.std.specs.Ordering.{is_lt}
use Rattle.std.proofs.lemmas.Bool.{cases_lt, and_parts, and_from, both_ways, not-true, not_from_false, false_from_ne_true, true_from_ne_false, eqb-false}
use denote.Ref.{Bor}
use Rattle.std.specs.Prelude.{IsSorted}
use Rattle.std.proofs.lemmas.List.{length-map, get_or-map}
use Rattle.ddt_path.specs.Covers.{is_same_path}
use Rattle.ddt_path.specs.laws.Cover.{same_path, path_itself}
use Rattle.ddt_path.specs.laws.Member.{IsIn, none_of, fails_at, in_contained, contained, placed, placed_in}
use Rattle.ddt_path.specs.laws.PathOrder.{IsUpTo, lt_after, same_from_ties, not_below_itself}
use Rattle.ddt_register.specs.declared.site.Site.{Site}
use Rattle.ddt_register.specs.declared.register.Register.{Register}
use Rattle.ddt_register.specs.laws.RowOrder.{rising_from_rise, rows_apart}
use Rattle.ddt_register.specs.laws.Rising.{sites_rise}
use Rattle.ddt_check.specs.Order.{in_order}
use Rattle.ddt_review.specs.Warnings.Order.{AreSitesInOrder}
use Rattle.ddt_check.specs.Rules.{IsAccepted}
use Rattle.ddt_check.specs.laws.Order.{far}
use Rattle.ddt_check.specs.laws.Kept.{one_site}
use Rattle.ddt_review.specs.Warnings.Warnings.{is_before, is_next}
use Rattle.ddt_review.specs.Warnings.Found.{AreNeighbours, HasNone}

abbrev prefix : Site → List ℕ
prefix s = s.prefix

abbrev site_row : Site → ℕ
site_row s = s.row

not_before_itself : (p : List ℕ) → is_before p p ≡ false
not_before_itself p = not_below_itself p p (path_itself p p refl)

-- ---- references to sites

abbrev pub site_at : Bor Site → Site
site_at y = y.now

-- what is sorted by its sites has them sorted
pub sites_sorted : (ys : List (Bor Site)) → IsSorted (λ x y. in_order prefix site_row x.now y.now) ys
    → AreSitesInOrder (map site_at ys)
sites_sorted [] sorted = λ k d low lt. absurd (omega arith)
sites_sorted (x ∷ ys) sorted = λ k d low lt.
    let all = x ∷ ys in
    let inside : k + 1 < length all = omega (arith, length-map all site_at) in
    let before : k < length all = omega arith in
    ap (λ (y : Site). is_lt (in_order prefix site_row y (get_or (map site_at all) k d))) (get_or-map site_at all (k + 1) x d inside)
    ∙ ap (λ (y : Site). is_lt (in_order prefix site_row (get_or all (k + 1) x).now y)) (get_or-map site_at all k x d before)
    ∙ sorted k x low inside

module _ (ys : List (Bor Site)) (sorted : AreSitesInOrder (map site_at ys)) (s : Site) where
  abbrev pub stands_before : Bor Site → Bool
  stands_before y = is_before y.now.prefix s.prefix

  pub before_parted : IsPartitionedBy stands_before ys
  before_parted = λ i j d le inside e.
      let a = get_or-map site_at ys i d d.now (omega arith) in
      let b = get_or-map site_at ys j d d.now inside in
      let up = (far prefix site_row (map site_at ys) sorted i j d.now le (omega (arith, length-map ys site_at))).0 in
      lt_after (get_or ys i d).now.prefix (get_or ys j d).now.prefix s.prefix
      (subst (λ (y : Site). IsUpTo y.prefix (get_or ys j d).now.prefix) a
      (subst (λ (y : Site). IsUpTo (get_or (map site_at ys) i d.now).prefix y.prefix) b up)) e

pub point_of_sites : (s : Site) (ys : List (Bor Site)) (at : ℕ) → at ≤ length ys
    → IsPartitionPoint (λ y. is_before y.now.prefix s.prefix ≡ true) (λ y. is_before y.now.prefix s.prefix ≡ false) ys at
    → IsPartitionPoint (λ t. is_before t.prefix s.prefix ≡ true) (λ t. is_before t.prefix s.prefix ≡ false) (map site_at ys) at
point_of_sites s [] at le point = (λ k d low lt. absurd (omega arith), λ k d low lt. absurd (omega arith))
point_of_sites s (x ∷ ys) at le point =
    let all = x ∷ ys in
    let test = λ (t : Site). is_before t.prefix s.prefix in (
      λ k d low lt. ap test (get_or-map site_at all k x d (omega arith)) ∙ point.0 k x low lt,
      λ k d low lt.
          let inside : k < length all = omega (arith, length-map all site_at) in
          ap test (get_or-map site_at all k x d inside) ∙ point.1 k x low inside,
    )

-- what is at a place among references is at that place among the sites
pub site_there : (ys : List (Bor Site)) (i : ℕ) (y : Bor Site) (d : Site) → i < length ys → y ≡ get_or ys i y
    → y.now ≡ get_or (map site_at ys) i d
site_there ys i y d lt is = ap site_at is ∙ sym (get_or-map site_at ys i y d lt)

module _ (r : Register) (accepted : IsAccepted r) (xs : List Site) (moved : IsPermutation r.sites xs)
    (sorted : AreSitesInOrder xs) where
  -- the sites of two places are two
  other_prefix : (i j : ℕ) (d : Site) → i < j → j < length xs
      → is_same_path (get_or xs i d).prefix (get_or xs j d).prefix ≡ false
  other_prefix i j d lt inside = false_from_ne_true (is_same_path (get_or xs i d).prefix (get_or xs j d).prefix)
      (λ same.
      let one = one_site r accepted (get_or xs i d) (get_or xs j d)
      (placed_in r.sites xs moved i d (omega arith)) (placed_in r.sites xs moved j d inside)
      (same_path (get_or xs i d).prefix (get_or xs j d).prefix same) in
      let ne = eqb-false _ _ (rows_apart site_row r.sites xs (rising_from_rise site_row r.sites 0 (sites_rise r)) moved
      i j d lt inside) in
      ne (ap site_row one))

  place_lt : (i j : ℕ) (d : Site) → i < j → j < length xs
      → is_before (get_or xs i d).prefix (get_or xs j d).prefix ≡ true
  place_lt i j d lt inside = true_from_ne_false (is_before (get_or xs i d).prefix (get_or xs j d).prefix) (λ e.
      both_ways (is_same_path (get_or xs i d).prefix (get_or xs j d).prefix) (other_prefix i j d lt inside)
      (same_from_ties (get_or xs i d).prefix (get_or xs j d).prefix
      (far prefix site_row xs sorted i j d (omega arith) inside).0 e))

  lt_place : (i j : ℕ) (d : Site) → i < length xs → is_before (get_or xs i d).prefix (get_or xs j d).prefix ≡ true → i < j
  lt_place i j d inside e =
      elim (cases_lt i j) [
        | inl lt ↦ lt
        | inr le ↦ absurd (both_ways (is_before (get_or xs i d).prefix (get_or xs j d).prefix)
            (far prefix site_row xs sorted j i d le inside).0 e)
      ]

  abbrev stands_between : Site → Site → Site → Bool
  stands_between a b t = is_before a.prefix t.prefix && is_before t.prefix b.prefix

  next_at : (i : ℕ) (d : Site) → i + 1 < length xs → is_next r (get_or xs i d) (get_or xs (i + 1) d) ≡ true
  next_at i d inside =
      let a = get_or xs i d in
      let b = get_or xs (i + 1) d in
      and_from (is_before a.prefix b.prefix) (not (list_any (stands_between a b) r.sites)) (place_lt i (i + 1) d (omega arith) inside)
      (not_from_false (list_any (stands_between a b) r.sites) (none_of (stands_between a b) r.sites (λ t k.
      false_from_ne_true (stands_between a b t) (λ e.
      let p = and_parts (is_before a.prefix t.prefix) (is_before t.prefix b.prefix) e in
      let c = placed r.sites xs moved t k d in
      let above = lt_place i c.0 d (omega arith) (subst (λ (y : Site). is_before a.prefix y.prefix ≡ true) c.2 p.0) in
      let below = lt_place c.0 (i + 1) d c.1 (subst (λ (y : Site). is_before y.prefix b.prefix ≡ true) c.2 p.1) in
      absurd (omega arith)))))

  next_is : (i j : ℕ) (d : Site) → i < length xs → j < length xs → is_next r (get_or xs i d) (get_or xs j d) ≡ true
      → j ≡ i + 1
  next_is i j d first second e =
      let a = get_or xs i d in
      let b = get_or xs j d in
      let p = and_parts (is_before a.prefix b.prefix) (not (list_any (stands_between a b) r.sites)) e in
      let lt = lt_place i j d first p.0 in
      elim (cases_lt (i + 1) j) [
        | inl more ↦ absurd (both_ways (stands_between a b (get_or xs (i + 1) d))
            (fails_at (stands_between a b) r.sites (get_or xs (i + 1) d) (not-true (list_any (stands_between a b) r.sites) p.1)
            (placed_in r.sites xs moved (i + 1) d (omega arith)))
            (and_from (is_before a.prefix (get_or xs (i + 1) d).prefix) (is_before (get_or xs (i + 1) d).prefix b.prefix)
            (place_lt i (i + 1) d (omega arith) (omega arith)) (place_lt (i + 1) j d more second)))
        | inr le ↦ omega arith
      ]

  module _ (s : Site) (k : IsIn s r.sites) (at : ℕ)
      (point : IsPartitionPoint (λ t. is_before t.prefix s.prefix ≡ true) (λ t. is_before t.prefix s.prefix ≡ false) xs at) where
    -- the site stands at the place that is found
    at_most : (j : ℕ) → j < length xs → s ≡ get_or xs j s → at ≤ j
    at_most j inside is = elim (cases_lt j at) [
      | inl lt ↦ absurd (both_ways (is_before (get_or xs j s).prefix s.prefix)
          (subst (λ (y : Site). is_before y.prefix s.prefix ≡ false) is (not_before_itself s.prefix)) (point.0 j s (omega arith) lt))
      | inr le ↦ le
    ]

    at_least : (j : ℕ) → j < length xs → s ≡ get_or xs j s → j ≤ at
    at_least j inside is = elim (cases_lt at j) [
      | inl lt ↦ absurd (both_ways (is_before (get_or xs at s).prefix s.prefix) (point.1 at s (omega arith) (omega arith))
          (subst (λ (y : Site). is_before (get_or xs at s).prefix y.prefix ≡ true) (sym is) (place_lt at j s lt inside)))
      | inr le ↦ le
    ]

    own_place : (at < length xs) × (s ≡ get_or xs at s)
    own_place =
        let c = placed r.sites xs moved s k s in
        let inside : c.0 < length xs = c.1 in
        let low : at ≤ c.0 = at_most c.0 c.1 c.2 in
        let high : c.0 ≤ at = at_least c.0 c.1 c.2 in
        let here : c.0 ≡ at = omega arith in
        (omega arith, c.2 ∙ ap (λ (i : ℕ). get_or xs i s) here)

    -- whatever is next to it on one side stands there
    before_is : (a : Site) → IsIn a r.sites → is_next r a s ≡ true → (0 < at) × (a ≡ get_or xs (at - 1) s)
    before_is a j e =
        let own = own_place in
        let c = placed r.sites xs moved a j s in
        let n : at ≡ c.0 + 1 = next_is c.0 at s c.1 own.0
        (subst (λ (y : Site). is_next r y (get_or xs at s) ≡ true) c.2
        (subst (λ (y : Site). is_next r a y ≡ true) own.1 e)) in
        (omega arith, c.2 ∙ ap (λ (i : ℕ). get_or xs i s) (omega arith))

    behind_is : (b : Site) → IsIn b r.sites → is_next r s b ≡ true → (at + 1 < length xs) × (b ≡ get_or xs (at + 1) s)
    behind_is b j e =
        let own = own_place in
        let c = placed r.sites xs moved b j s in
        let n : c.0 ≡ at + 1 = next_is at c.0 s own.0 c.1
        (subst (λ (y : Site). is_next r (get_or xs at s) y ≡ true) c.2
        (subst (λ (y : Site). is_next r y b ≡ true) own.1 e)) in
        let inside : c.0 < length xs = c.1 in
        (omega arith, c.2 ∙ ap (λ (i : ℕ). get_or xs i s) n)

    pub none_first : at ≡ 0 → HasNone r s
    none_first e a b j l = false_from_ne_true (is_next r a s && is_next r s b) (λ both.
        let p = and_parts (is_next r a s) (is_next r s b) both in
        let lt = (before_is a (in_contained r.sites a j) p.0).0 in
        absurd (omega arith))

    pub none_last : length xs ≤ at + 1 → HasNone r s
    none_last e a b j l = false_from_ne_true (is_next r a s && is_next r s b) (λ both.
        let p = and_parts (is_next r a s) (is_next r s b) both in
        let lt = (behind_is b (in_contained r.sites b l) p.1).0 in
        absurd (omega arith))

    pub beside : (a b : Site) → 0 < at → at + 1 < length xs → a ≡ get_or xs (at - 1) s → b ≡ get_or xs (at + 1) s
        → AreNeighbours r s a b
    beside a b some more first second =
        let own = own_place in
        let n : at ≡ (at - 1) + 1 = omega arith in
        record {
          before_in = contained r.sites a (subst (λ (y : Site). IsIn y r.sites) (sym first)
              (placed_in r.sites xs moved (at - 1) s (omega arith)));
          behind_in = contained r.sites b (subst (λ (y : Site). IsIn y r.sites) (sym second)
              (placed_in r.sites xs moved (at + 1) s more));
          before = subst (λ (y : Site). is_next r y s ≡ true) (sym first)
              (subst (λ (y : Site). is_next r (get_or xs (at - 1) s) y ≡ true)
              (ap (λ (i : ℕ). get_or xs i s) (sym n) ∙ sym own.1) (next_at (at - 1) s (omega arith)));
          behind = subst (λ (y : Site). is_next r s y ≡ true) (sym second)
              (subst (λ (y : Site). is_next r y (get_or xs (at + 1) s) ≡ true) (sym own.1) (next_at at s more));
          one_before = λ t j e. (before_is t (in_contained r.sites t j) e).1 ∙ sym first;
          one_behind = λ t j e. (behind_is t (in_contained r.sites t j) e).1 ∙ sym second;
        }
