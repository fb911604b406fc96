-- The first group before a row that has one of some locators, as a loop over these takes the least row of each.
use Rattle.std.proofs.Common.{◌≡◌, ◌⊎◌, ℕ, ◌+◌, ◌<◌, ◌≤◌, Bool, true, false, cond, ◌&&◌, ◌||◌, List, [], length, take, get_or, find, Option, Some, None, refl, sym, ap, ◌∙◌, arith, inl, inr}
use Rattle.std.specs.Prelude.{nat_lt, min}
use Rattle.std.specs.List.{list_any}
use Rattle.std.specs.Option.{option_map}
use Rattle.std.specs.Cmp.{nat_eq_equiv}
use Rattle.std.proofs.lemmas.Bool.{false≢true, false_from_ne_true, and_parts, or_cases, ltb-true, ltb-false, both_ways}
use Rattle.std.proofs.lemmas.Option.{none-some, same_Some}
use Rattle.std.proofs.lemmas.List.Folds.{list_any_more}
use Rattle.ddt_path.specs.declared.locator.Locator.{Locator}
use Rattle.ddt_path.specs.declared.locator.Locator.TheVariants.{V4, V6}
use Rattle.ddt_path.specs.Locators.{is_same_locator, lists}
use Rattle.ddt_path.specs.laws.Member.{IsIn, iff_same, any_in, in_any, found_in, found_passes, found_none, unfound}
use Rattle.ddt_register.specs.declared.group.Group.{Group}
use Rattle.ddt_register.specs.declared.register.Register.{Register}
use Rattle.ddt_register.specs.Rows.{first_row}
use Rattle.ddt_register.specs.laws.RowOrder.{found_first, first_found, groups_up}
use Rattle.ddt_check.specs.Rules.{share}
use Rattle.ddt_review.specs.Faults.Broken.{earlier_sharer}

-- a group has one of these locators
abbrev pub has_any : List Locator → Group → Bool
has_any ls h = list_any (λ l. lists h.locators l) ls

same_flips : (a b : Locator) → is_same_locator a b ≡ is_same_locator b a
same_flips (V4 a) (V4 b) = nat_eq_equiv.symm a b
same_flips (V6 a) (V6 b) = nat_eq_equiv.symm a b
same_flips (V4 a) (V6 b) = refl
same_flips (V6 a) (V4 b) = refl

shared_one : (ls ms : List Locator) → share ls ms ≡ true → list_any (λ m. lists ls m) ms ≡ true
shared_one ls ms e =
    let l = any_in (λ l. lists ms l) ls e in
    let m = any_in (λ m. is_same_locator m l.0) ms l.2 in
    in_any (λ m. lists ls m) ms m.0 m.1 (in_any (λ k. is_same_locator k m.0) ls l.0 l.1 (same_flips l.0 m.0 ∙ m.2))

pub share_flips : (h : Group) (ms : List Locator) → share h.locators ms ≡ has_any ms h
share_flips h ms = iff_same (share h.locators ms) (has_any ms h) (shared_one h.locators ms) (shared_one ms h.locators)

-- no row of a group that has one of these is lower, and it is such a row unless it is the row itself
pub record IsLeastSharer (r : Register) (n : ℕ) (ls : List Locator) (least : ℕ) : Type 0 where
  pub upper : least ≤ n
  pub below : (h : Group) → IsIn h r.groups → has_any ls h ≡ true → least ≤ h.row
  pub attained : least < n → (h : Group) × IsIn h r.groups × (h.row ≡ least) × (has_any ls h ≡ true)

pub no_sharer : (r : Register) (n : ℕ) → IsLeastSharer r n [] n
no_sharer r n = record {
  upper = omega arith;
  below = λ h k e. absurd (false≢true e);
  attained = λ lt. absurd (omega arith);
}

module _ (r : Register) (n : ℕ) (ls : List Locator) (i : ℕ) (l : Locator) (lt : i < length ls) (is : l ≡ get_or ls i l)
    (least : ℕ) (before : IsLeastSharer r n (take i ls) least) where
  more : (h : Group) → has_any (take (i + 1) ls) h ≡ (has_any (take i ls) h || lists h.locators l)
  more h =
      list_any_more (λ (m : Locator). lists h.locators m) ls i l lt
      ∙ ap (λ (m : Locator). has_any (take i ls) h || lists h.locators m) (sym is)

  kept : (h : Group) → has_any (take i ls) h ≡ true → has_any (take (i + 1) ls) h ≡ true
  kept h e = more h ∙ ap (λ (b : Bool). b || lists h.locators l) e

  gained : (h : Group) → lists h.locators l ≡ true → has_any (take (i + 1) ls) h ≡ true
  gained h e = more h ∙ ap (λ (b : Bool). has_any (take i ls) h || b) e ∙ go (has_any (take i ls) h)
    where
      go : (b : Bool) → (b || true) ≡ true
      go true = refl
      go false = refl

  either : (h : Group) → has_any (take (i + 1) ls) h ≡ true
      → (has_any (take i ls) h ≡ true) ⊎ (lists h.locators l ≡ true)
  either h e = or_cases (has_any (take i ls) h) (lists h.locators l) (sym (more h) ∙ e)

  -- no group has the locator
  pub least_stays : None ≡ first_row (λ g. g.row) (λ g. lists g.locators l) r.groups
      → IsLeastSharer r n (take (i + 1) ls) least
  least_stays none = record {
    upper = before.upper;
    below = λ h k e. elim (either h e) [
      | inl old ↦ before.below h k old
      | inr new ↦ absurd (both_ways (lists h.locators l)
          (unfound (λ (g : Group). lists g.locators l) r.groups h missing k) new)
    ];
    attained = λ low. let a = before.attained low in (a.0, a.1, a.2, kept a.0 a.3);
  }
    where
      unmapped : (o : Option Group) → None ≡ option_map (λ (g : Group). g.row) o → o ≡ None
      unmapped None e = refl
      unmapped (Some g) e = absurd (none-some g.row e)

      missing : find (λ (g : Group). lists g.locators l) r.groups ≡ None
      missing = unmapped (find (λ (g : Group). lists g.locators l) r.groups) none

  -- the first group that has it
  pub least_falls : (row : ℕ) → Some row ≡ first_row (λ g. g.row) (λ g. lists g.locators l) r.groups
      → IsLeastSharer r n (take (i + 1) ls) (min least row)
  least_falls row some = go (find (λ (g : Group). lists g.locators l) r.groups) refl some
    where
      go : (found : Option Group) → find (λ (g : Group). lists g.locators l) r.groups ≡ found
          → Some row ≡ option_map (λ (g : Group). g.row) found → IsLeastSharer r n (take (i + 1) ls) (min least row)
      go None e f = absurd (none-some row (sym f))
      go (Some g) e f =
          let at : row ≡ g.row = same_Some row g.row f in
          let member = found_in (λ (h : Group). lists h.locators l) r.groups g e in
          let passes = found_passes (λ (h : Group). lists h.locators l) r.groups g e in
          record {
            upper = let u = before.upper in omega arith;
            below = λ h k t. elim (either h t) [
              | inl old ↦ let b = before.below h k old in omega arith
              | inr new ↦
                  let first = first_found (λ (y : Group). y.row) (λ (y : Group). lists y.locators l) r.groups h
                  (groups_up r) k new in
                  let one : g ≡ first.0 = same_Some g first.0 (sym e ∙ first.1) in
                  let low : first.0.row ≤ h.row = first.2 in
                  let same : g.row ≡ first.0.row = ap (λ (y : Group). y.row) one in
                  omega arith
            ];
            attained = λ low. elim (nat_lt least row) as (λ b. nat_lt least row ≡ b
                → (h : Group) × IsIn h r.groups × (h.row ≡ min least row) × (has_any (take (i + 1) ls) h ≡ true)) [
                  | true ↦ λ t.
                      let under : least < row = ltb-true least row t in
                      let a = before.attained (omega arith) in
                      let q : a.0.row ≡ least = a.2 in
                      (a.0, a.1, omega arith, kept a.0 a.3)
                  | false ↦ λ t.
                      let over : row ≤ least = ltb-false least row t in
                      (g, member, omega arith, gained g passes)
                ] refl;
          }

-- what the loop ends with
pub least_is_sharer : (r : Register) (g : Group) (least : ℕ) → IsLeastSharer r g.row g.locators least
    → cond (nat_lt least g.row) (Some least) None ≡ earlier_sharer r g
least_is_sharer r g least found = go (nat_lt least g.row) refl
  where
    has_one : (h : Group) → share h.locators g.locators ≡ true → has_any g.locators h ≡ true
    has_one h e = sym (share_flips h g.locators) ∙ e

    go : (b : Bool) → nat_lt least g.row ≡ b
        → cond b (Some least) None ≡ earlier_sharer r g
    go true e =
        let a = found.attained (ltb-true least g.row e) in
        let at : a.0.row ≡ least = a.2 in
        let low : nat_lt a.0.row g.row ≡ true = ap (λ (n : ℕ). nat_lt n g.row) at ∙ e in
        let shares : share a.0.locators g.locators ≡ true = share_flips a.0 g.locators ∙ a.3 in
        sym (ap (option_map (λ (h : Group). h.row))
        (found_first (λ (h : Group). h.row) (λ (h : Group). nat_lt h.row g.row && share h.locators g.locators)
        r.groups a.0
        (groups_up r) a.1 (ap (λ (b : Bool). b && share a.0.locators g.locators) low ∙ shares) (λ y k lt.
        false_from_ne_true (nat_lt y.row g.row && share y.locators g.locators) (λ t.
        let p = and_parts (nat_lt y.row g.row) (share y.locators g.locators) t in
        let b = found.below y k (has_one y p.1) in
        absurd (omega arith))))
        ∙ ap (λ (n : ℕ). Some n) at)
    go false e =
        let high = ltb-false least g.row e in
        sym (ap (option_map (λ (h : Group). h.row))
        (found_none (λ (h : Group). nat_lt h.row g.row && share h.locators g.locators) r.groups (λ y k.
        false_from_ne_true (nat_lt y.row g.row && share y.locators g.locators) (λ t.
        let p = and_parts (nat_lt y.row g.row) (share y.locators g.locators) t in
        let b = found.below y k (has_one y p.1) in
        let lt = ltb-true y.row g.row p.0 in
        absurd (omega arith)))))
