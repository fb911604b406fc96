-- A walk over zones in order that keeps one zone of Map-Servers: what it says of the zones to come.
use Rattle.std.proofs.Common.{◌≡◌, ℕ, ◌+◌, ◌<◌, ◌≤◌, true, false, not, List, length, get_or, Option, Some, None, inl, inr, refl, sym, ap, subst, ◌∙◌, arith}
use Rattle.std.specs.Prelude.{◌&&◌, ⊤, Bool}
use Rattle.std.specs.List.{list_any}
use Rattle.std.specs.Option.{option_map_or}
use Rattle.std.proofs.lemmas.Bool.{false≢true, both_ways, and_parts, and_from, and_cases, cases_lt, not-true, not-false}
use Rattle.ddt_path.specs.Covers.{covers, is_strictly_below}
use Rattle.ddt_path.specs.laws.Cover.{covers_self, covers_trans, below_is, below_wider}
use Rattle.ddt_register.specs.declared.zone.Zone.{Zone}
use Rattle.ddt_check.specs.Zones.{is_ms}
use Rattle.ddt_check.specs.Order.{IsInOrder}
use Rattle.ddt_path.specs.laws.Member.{IsIn, in_contained, contained, iff_same, any_in, in_any}
use Rattle.std.proofs.lemmas.List.{get_or_default}
use Rattle.ddt_check.specs.laws.Order.{far}
use Rattle.ddt_path.specs.laws.PathOrder.{IsUpTo, covers-between, covers-back}

abbrev prefix : Zone → List ℕ
prefix z = z.prefix

abbrev zone_row : Zone → ℕ
zone_row z = z.row

-- whether a prefix is strictly below the one that is kept
abbrev pub is_under : Option (List ℕ) → List ℕ → Bool
is_under top p = option_map_or (is_strictly_below p) top false

-- whether the one that is kept covers a prefix
abbrev pub is_within : Option (List ℕ) → List ℕ → Bool
is_within top p = option_map_or (λ q. covers q p) top false

-- whether a zone is kept from now on: one of Map-Servers that what was kept doesn't cover
abbrev pub is_top : Option (List ℕ) → Zone → Bool
is_top top z = is_ms z.kind && not (is_within top z.prefix)

-- what is kept is the prefix of a zone of Map-Servers so far
abbrev pub IsKept : List Zone → Option (List ℕ) → Type 0
IsKept zones None = ⊤
IsKept zones (Some top) = (y : Zone) × IsIn y zones × (is_ms y.kind ≡ true) × (y.prefix ≡ top)

-- each zone of Map-Servers so far that covers a path from there on is covered by what is kept
abbrev pub IsWidest : List Zone → ℕ → Option (List ℕ) → Type 0
IsWidest zones i top =
    (j : ℕ) (d : Zone) → j < i → is_ms (get_or zones j d).kind ≡ true
    → (x : List ℕ) → ((k : ℕ) → k < i → IsUpTo (get_or zones k d).prefix x) → covers (get_or zones j d).prefix x ≡ true
    → is_within top (get_or zones j d).prefix ≡ true

pub record IsTop (zones : List Zone) (i : ℕ) (top : Option (List ℕ)) : Type 0 where
  pub kept : IsKept zones top
  pub widest : IsWidest zones i top

pub top_first : (zones : List Zone) → IsTop zones 0 None
top_first zones = record { kept = tt; widest = λ j d lt. absurd (omega arith) }

under-of_kept : (zones : List Zone) (top : Option (List ℕ)) (p : List ℕ) → IsKept zones top → is_under top p ≡ true
    → list_any (λ y. is_ms y.kind && is_strictly_below p y.prefix) zones ≡ true
under-of_kept zones None p kept e = absurd (false≢true e)
under-of_kept zones (Some m) p kept e =
    in_any (λ (y : Zone). is_ms y.kind && is_strictly_below p y.prefix) zones kept.0 kept.1
    (and_from (is_ms kept.0.kind) (is_strictly_below p kept.0.prefix) kept.2
    (subst (λ (q : List ℕ). is_strictly_below p q ≡ true) (sym kept.3) e))

under-of_within : (top : Option (List ℕ)) (y p : List ℕ) → is_within top y ≡ true → is_strictly_below p y ≡ true
    → is_under top p ≡ true
under-of_within None y p e below = absurd (false≢true e)
under-of_within (Some m) y p e below = below_wider p y m e below

module _ (zones : List Zone) (sorted : IsInOrder prefix zone_row zones) where
  up_to : (k i : ℕ) (d : Zone) → k ≤ i → i < length zones → IsUpTo (get_or zones k d).prefix (get_or zones i d).prefix
  up_to k i d le lt = (far prefix zone_row zones sorted k i d le lt).0

  -- the next zone is below some zone of Map-Servers if and only if it is below what is kept
  pub under_is : (i : ℕ) (top : Option (List ℕ)) (w : Zone) → i < length zones → w ≡ get_or zones i w
      → IsTop zones i top
      → is_under top w.prefix ≡ list_any (λ y. is_ms y.kind && is_strictly_below w.prefix y.prefix) zones
  under_is i top w lt is state =
      iff_same (is_under top w.prefix) (list_any (λ y. is_ms y.kind && is_strictly_below w.prefix y.prefix) zones)
      (under-of_kept zones top w.prefix state.kept)
      (λ e.
      let f = any_in (λ (y : Zone). is_ms y.kind && is_strictly_below w.prefix y.prefix) zones e in
      let p = and_parts (is_ms f.0.kind) (is_strictly_below w.prefix f.0.prefix) f.2 in
      let s = below_is w.prefix f.0.prefix p.1 in
      let c = contained zones f.0 f.1 in
      let at : f.0 ≡ get_or zones c.0 w = sym c.2 ∙ get_or_default zones c.0 f.0 w c.1 in
      elim (cases_lt c.0 i) [
        | inl before ↦
            under-of_within top f.0.prefix w.prefix
            (subst (λ (y : Zone). is_within top y.prefix ≡ true) (sym at)
            (state.widest c.0 w before (subst (λ (y : Zone). is_ms y.kind ≡ true) at p.0) w.prefix
            (λ k low. subst (λ (z : Zone). IsUpTo (get_or zones k w).prefix z.prefix) (sym is)
            (up_to k i w (omega arith) lt))
            (subst (λ (y : Zone). covers y.prefix w.prefix ≡ true) at s.0)))
            p.1
        | inr behind ↦
            let down : IsUpTo w.prefix f.0.prefix = subst (λ (y : Zone). IsUpTo w.prefix y.prefix) (sym at)
            (subst (λ (z : Zone). IsUpTo z.prefix (get_or zones c.0 w).prefix) (sym is)
            (up_to i c.0 w behind c.1)) in
            absurd (both_ways (covers w.prefix f.0.prefix) s.1
            (covers-back w.prefix f.0.prefix down s.0))
      ])

  within_trans : (top : Option (List ℕ)) (y w : List ℕ) → is_within top y ≡ true → covers y w ≡ true
      → is_within top w ≡ true
  within_trans None y w e inside = absurd (false≢true e)
  within_trans (Some m) y w e inside = covers_trans m y w e inside

  -- what the walk knew of a zone so far, at the next one
  before : (i j : ℕ) (top : Option (List ℕ)) (w d : Zone) → i < length zones → w ≡ get_or zones i w
      → IsTop zones i top → j < i → is_ms (get_or zones j d).kind ≡ true
      → (x : List ℕ) → ((k : ℕ) → k < i + 1 → IsUpTo (get_or zones k d).prefix x) → covers (get_or zones j d).prefix
      x ≡ true
      → (is_within top (get_or zones j d).prefix ≡ true) × (is_within top w.prefix ≡ true)
  before i j top w d lt is state low ms x above inside =
      let y = (get_or zones j d).prefix in
      let held = state.widest j d low ms x (λ k less. above k (omega arith)) inside in
      let here : w ≡ get_or zones i d = is ∙ get_or_default zones i w d lt in
      let next = subst (λ (z : Zone). IsUpTo z.prefix x) (sym here) (above i (omega arith)) in
      let up = subst (λ (z : Zone). IsUpTo y z.prefix) (sym here) (up_to j i d (omega arith) lt) in
      (held, within_trans top y w.prefix held (covers-between y w.prefix x up next inside))

  pub top_new : (i : ℕ) (top : Option (List ℕ)) (w : Zone) → i < length zones → w ≡ get_or zones i w
      → IsTop zones i top → is_top top w ≡ true → IsTop zones (i + 1) (Some w.prefix)
  top_new i top w lt is state e =
      let p = and_parts (is_ms w.kind) (not (is_within top w.prefix)) e in
      record {
        kept = (
          w,
          in_contained zones w (subst (λ (z : Zone). (k : ℕ) × (k < length zones) × (get_or zones k z ≡ z))
              refl (i, lt, sym is)),
          p.0,
          refl,
        );
        widest = λ j d low ms x above inside. elim (cases_lt j i) [
          | inl less ↦ absurd (both_ways (is_within top w.prefix) (not-true (is_within top w.prefix) p.1)
              (before i j top w d lt is state less ms x above inside).1)
          | inr same ↦ let eq : j ≡ i = omega arith in
              let here : w ≡ get_or zones j d = is ∙ get_or_default zones i w d lt ∙ ap (λ (k : ℕ). get_or zones k d)
              (sym eq) in
              subst (λ (z : Zone). covers w.prefix z.prefix ≡ true) here (covers_self w.prefix)
        ];
      }

  pub top_kept : (i : ℕ) (top : Option (List ℕ)) (w : Zone) → i < length zones → w ≡ get_or zones i w
      → IsTop zones i top → is_top top w ≡ false → IsTop zones (i + 1) top
  top_kept i top w lt is state e =
      record {
        kept = state.kept;
        widest = λ j d low ms x above inside. elim (cases_lt j i) [
          | inl less ↦ (before i j top w d lt is state less ms x above inside).0
          | inr same ↦ let eq : j ≡ i = omega arith in
              let here : w ≡ get_or zones j d = is ∙ get_or_default zones i w d lt ∙ ap (λ (k : ℕ). get_or zones k d)
              (sym eq) in
              subst (λ (z : Zone). is_within top z.prefix ≡ true) here
              (elim (and_cases (is_ms w.kind) (not (is_within top w.prefix)) e) [
                | inl other ↦ absurd (both_ways (is_ms w.kind) other
                    (subst (λ (z : Zone). is_ms z.kind ≡ true) (sym here) ms))
                | inr held ↦ not-false (is_within top w.prefix) held
              ])
        ];
      }
