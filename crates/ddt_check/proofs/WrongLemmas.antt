-- The least row of a group of wrong locators, by what is wrong of it alone and by the columns.
use Rattle.std.proofs.Common.{◌≡◌, ◌⊎◌, ℕ, zero, suc, ◌<◌, ◌≤◌, Bool, true, false, not, length, drop, max, Option, Some, None, inl, inr, refl, sym, ◌∙◌, arith}
use Rattle.std.specs.Prelude.{◌==◌, ◌&&◌, ◌||◌, nat_lt, slice_get, ◌≢◌}
use Rattle.std.specs.List.{list_any}
use Rattle.std.proofs.lemmas.Bool.{false≢true, both_ways, false_from_ne_true, and_parts, and_from, or_left, or_right, or_cases, cases_lt, lt-ltb, ltb-true, ltb-false, eq-eqb, eqb-true, ne_eqb}
use Rattle.std.proofs.lemmas.Bool.Decides.{nat_tests}
use Rattle.ddt_path.specs.declared.locator.Locator.{Locator}
use Rattle.ddt_path.specs.Locators.{is_same_locator, lists, are_distinct}
use Rattle.ddt_path.specs.Covers.{is_same_path}
use Rattle.ddt_path.specs.laws.Cover.{same_path, path_itself}
use Rattle.ddt_path.specs.laws.Locator.{same_locator, is_same_locator_self}
use Rattle.ddt_path.specs.laws.Member.{IsIn, in_get, get_in, in_drop, found_in, found_passes, fails_at, in_later, any_in, in_any}
use Rattle.ddt_register.specs.declared.group.Group.{Group}
use Rattle.ddt_register.specs.declared.register.Register.{Register}
use Rattle.ddt_register.specs.laws.RowOrder.{first_found, groups_up}
use Rattle.ddt_check.specs.declared.fault.Rule.TheVariants as rules
use Rattle.ddt_check.specs.Rules.{IsLeastRow, broken, group_at, has_wrong_locators, share, earlier_group}
use Rattle.ddt_check.specs.Columns.{pair_or_none, key_list, column_key, locator_key, first_in, is_later_row, meets_at, meets_in, is_met, is_wrong_alone}
use Rattle.ddt_check.proofs.CaseLemmas.{option_cases}

-- a wider test that holds at no row without the narrow one at a row no higher
least_wider : (t b : ℕ → Bool) (o : Option ℕ) → ((n : ℕ) → t n ≡ true → b n ≡ true)
    → ((n : ℕ) → b n ≡ true → (m : ℕ) × (m ≤ n) × (t m ≡ true)) → IsLeastRow t o → IsLeastRow b o
least_wider t b None up down h = λ n. false_from_ne_true (b n) (λ e. let p = down n e in both_ways (t p.0) (h p.0) p.2)
least_wider t b (Some x) up down h = (
  up x h.0,
  λ n lt. false_from_ne_true (b n) (λ e. let p = down n e in both_ways (t p.0)
      (h.1 p.0 (let le = p.1 in omega arith)) p.2),
)

key_same : (o : Option Locator) (l : Locator) → is_same_path (key_list (pair_or_none o)) (locator_key l) ≡ true
    → o ≡ Some l
key_same o l e = grind (arith, same_path)

abbrev has_at : ℕ → Locator → Group → Bool
has_at k l h = is_same_path (column_key k h) (locator_key l)

later_parts : (m n k : ℕ) → is_later_row m n k ≡ true → ((m < n) × (n ≡ k)) ⊎ ((n < m) × (m ≡ k))
later_parts m n k e = grind (arith, nat_tests)

-- what is wrong at a row, of a group alone or in the first columns
abbrev pub wrong_upto : Register → ℕ → ℕ → Bool
wrong_upto r zero n = group_at r n is_wrong_alone
wrong_upto r (suc k) n = wrong_upto r k n || is_met r k n

module _ (r : Register) where
  alone_upto : (k n : ℕ) → group_at r n is_wrong_alone ≡ true → wrong_upto r k n ≡ true
  alone_upto zero n e = e
  alone_upto (suc k) n e = or_left (wrong_upto r k n) (is_met r k n) (alone_upto k n e)

  column_upto : (j k n : ℕ) → j < k → is_met r j n ≡ true → wrong_upto r k n ≡ true
  column_upto j zero n lt e = absurd (omega arith)
  column_upto j (suc k) n lt e = elim (cases_lt j k) [
    | inl less ↦ or_left (wrong_upto r k n) (is_met r k n) (column_upto j k n less e)
    | inr more ↦ let same : j ≡ k = omega arith in or_right (wrong_upto r k n) (is_met r k n) (rw same at e)
  ]

  -- ---- what is found is wrong

  at_row : (g : Group) (t : Group → Bool) → IsIn g r.groups → t g ≡ true → group_at r g.row t ≡ true
  at_row g t j e = in_any (λ (h : Group). h.row == g.row && t h) r.groups g j (rw (eq-eqb g.row g.row refl, e))

  -- a group of an earlier row has a locator of this one
  abbrev repeats : Group → Bool
  repeats g = earlier_group r g (λ h. share h.locators g.locators)

  wrong_parts : (g : Group) → has_wrong_locators r g ≡ (is_wrong_alone g || repeats g)
  wrong_parts g = or_apart (length g.locators == 0 || nat_lt 8 (length g.locators)) (not (are_distinct g.locators)) (repeats g)
    where
      or_apart : (a b c : Bool) → (a || (b || c)) ≡ ((a || b) || c)
      or_apart true b c = refl
      or_apart false b c = refl

  abbrev Before : Group → Group → Type 0
  Before h g = IsIn h r.groups × IsIn g r.groups × (h.row < g.row)

  -- the later of two groups that share a locator
  later_wrong : (h g : Group) (l : Locator) → Before h g → IsIn l h.locators → IsIn l g.locators
      → broken r rules.Locators g.row ≡ true
  later_wrong h g l p first second = at_row g (has_wrong_locators r) p.1 (rw (wrong_parts g) (or_right (is_wrong_alone g) (repeats g)
      (in_any (λ (h : Group). nat_lt h.row g.row && share h.locators g.locators) r.groups h p.0
      (and_from (nat_lt h.row g.row) (share h.locators g.locators) (lt-ltb h.row g.row p.2)
      (in_any (lists g.locators) h.locators l first
      (in_any (λ (x : Locator). is_same_locator x l) g.locators l second (is_same_locator_self l)))))))

  meets_wrong : (k : ℕ) (g : Group) (l : Locator) (n : ℕ) → IsIn g r.groups → IsIn l g.locators
      → meets_at r k g l n ≡ true → broken r rules.Locators n ≡ true
  meets_wrong k g l n j in_g = option_cases (λ b. b ≡ true → broken r rules.Locators n ≡ true)
      (λ h. is_later_row h.row g.row n) false (first_in r k l) (λ e q. absurd (false≢true q)) (λ h e q.
      let in_h = in_get h.locators k l (key_same (slice_get h.locators k) l (found_passes (has_at k l) r.groups h e)) in
      let i = found_in (has_at k l) r.groups h e in
      elim (later_parts h.row g.row n q) [
        | inl before ↦ rw before.1 at (later_wrong h g l (i, j, before.0) in_h in_g)
        | inr behind ↦ rw behind.1 at (later_wrong g h l (j, i, behind.0) in_g in_h)
      ])

  upto_wrong : (k n : ℕ) → wrong_upto r k n ≡ true → broken r rules.Locators n ≡ true
  upto_wrong zero n e =
      let f = any_in (λ (g : Group). g.row == n && is_wrong_alone g) r.groups e in
      let p = and_parts (f.0.row == n) (is_wrong_alone f.0) f.2 in
      rw (eqb-true f.0.row n p.0) at (at_row f.0 (has_wrong_locators r) f.1 (rw (wrong_parts f.0, p.1)))
  upto_wrong (suc k) n e = elim (or_cases (wrong_upto r k n) (is_met r k n) e) [
    | inl before ↦ upto_wrong k n before
    | inr here ↦
        let f = any_in (λ (g : Group). meets_in r k g n) r.groups here in
        let v = any_in (λ (l : Locator). meets_at r k f.0 l n) (drop k f.0.locators) f.2 in
        meets_wrong k f.0 v.0 n f.1 (in_later f.0.locators k v.0 v.1) v.2
  ]

  -- a group of an earlier row that has a locator of this one
  shared_with : (g : Group) → repeats g ≡ true
      → (h : Group) × (l : Locator) × IsIn h r.groups × (h.row < g.row) × IsIn l h.locators × IsIn l g.locators
  shared_with g e =
      let s = any_in (λ (h : Group). nat_lt h.row g.row && share h.locators g.locators) r.groups e in
      let h = s.0 in
      let q = and_parts (nat_lt h.row g.row) (share h.locators g.locators) s.2 in
      let u = any_in (lists g.locators) h.locators q.1 in
      let v = any_in (λ (x : Locator). is_same_locator x u.0) g.locators u.2 in
      (h, u.0, s.1, ltb-true h.row g.row q.0, u.1, rw (same_locator v.0 u.0 v.2) at v.1)

  -- ---- what is wrong is found

  -- where no group has a locator of an earlier one, what is wrong is wrong alone
  pub least_alone : ((h g : Group) (l : Locator) → Before h g → IsIn l h.locators → IsIn l g.locators → ⊥)
      → (o : Option ℕ) → IsLeastRow (λ n. group_at r n is_wrong_alone) o → IsLeastRow (broken r rules.Locators) o
  least_alone none o = least_wider (λ n. group_at r n is_wrong_alone) (broken r rules.Locators) o (upto_wrong zero)
      (λ n e.
      let f = any_in (λ (g : Group). g.row == n && has_wrong_locators r g) r.groups e in
      let g = f.0 in
      let p = and_parts (g.row == n) (has_wrong_locators r g) f.2 in
      elim (or_cases (is_wrong_alone g) (repeats g) (sym (wrong_parts g) ∙ p.1)) [
        | inl alone ↦ (n, omega arith, rw (eqb-true g.row n p.0) at (at_row g is_wrong_alone f.1 alone))
        | inr shared ↦ let s = shared_with g shared in absurd (none s.0 g s.1 (s.2, f.1, s.3) s.4 s.5)
      ])

  -- where the first group of a locator in a column stands in another row than a group that has the locator from there on
  met_at : (k : ℕ) (g f : Group) (l : Locator) (n : ℕ) → IsIn g r.groups → IsIn l (drop k g.locators)
      → first_in r k l ≡ Some f → f.row ≢ g.row → max f.row g.row ≡ n → is_met r k n ≡ true
  met_at k g f l n j i e apart most = in_any (λ (x : Group). meets_in r k x n) r.groups g j
      (in_any (λ (x : Locator). meets_at r k g x n) (drop k g.locators) l i
      (rw (e, ne_eqb f.row g.row apart, eq-eqb (max f.row g.row) n most)))

  first_at : (k : ℕ) (h : Group) (l : Locator) → IsIn h r.groups → slice_get h.locators k ≡ Some l
      → (f : Group) × (first_in r k l ≡ Some f) × (f.row ≤ h.row)
  first_at k h l j at = first_found (λ (x : Group). x.row) (has_at k l) r.groups h (groups_up r) j
      (rw at (path_itself (locator_key l) (locator_key l) refl))

  -- an earlier group has the locator in the column, and the group has it there or behind
  met_by_first : (k : ℕ) (h g : Group) (l : Locator) → Before h g → slice_get h.locators k ≡ Some l
      → IsIn l (drop k g.locators) → is_met r k g.row ≡ true
  met_by_first k h g l p at in_g =
      let f = first_at k h l p.0 at in
      let le : f.0.row ≤ h.row = f.2 in
      met_at k g f.0 l g.row p.1 in_g f.1 (let apart : f.0.row ≢ g.row = omega arith in apart) (omega arith)

  -- the group has the locator in the column, and an earlier one behind it
  met_behind : (k : ℕ) (h g : Group) (l : Locator) → Before h g → IsIn l (drop k h.locators)
      → slice_get g.locators k ≡ Some l → is_met r k g.row ≡ true
  met_behind k h g l p in_h at =
      let first = first_at k g l p.1 at in
      let f = first.0 in
      let le : f.row ≤ g.row = first.2 in
      elim (cases_lt f.row g.row) [
        | inl before ↦ met_by_first k f g l (found_in (has_at k l) r.groups f first.1, p.1, before)
            (key_same (slice_get f.locators k) l (found_passes (has_at k l) r.groups f first.1))
            (in_drop g.locators k k l (omega arith) at)
        | inr same ↦ met_at k h f l g.row p.0 in_h first.1 (let apart : f.row ≢ h.row = omega arith in apart) (omega arith)
      ]

  met_by_both : (h g : Group) (l : Locator) (a b : ℕ) → Before h g → slice_get h.locators a ≡ Some l
      → slice_get g.locators b ≡ Some l → (k : ℕ) × (k ≤ a) × (is_met r k g.row ≡ true)
  met_by_both h g l a b p at_h at_g = elim (cases_lt b a) [
    | inr le ↦ (a, omega arith, met_by_first a h g l p at_h (in_drop g.locators a b l le at_g))
    | inl less ↦ (b, omega arith, met_behind b h g l p (in_drop h.locators b a l (omega arith) at_h) at_g)
  ]

  -- each list of locators is within the first columns, or too long
  abbrev pub AreWithin : ℕ → Type 0
  AreWithin k = (g : Group) → IsIn g r.groups → (length g.locators ≤ k) ⊎ (8 < length g.locators)

  module _ (k : ℕ) (within : AreWithin k) where
    shared_upto : (h g : Group) (l : Locator) → Before h g → IsIn l h.locators → IsIn l g.locators
        → (m : ℕ) × (m ≤ g.row) × (wrong_upto r k m ≡ true)
    shared_upto h g l p in_h in_g =
        let a = get_in h.locators l in_h in
        let b = get_in g.locators l in_g in
        let m = met_by_both h g l a.0 b.0 p a.2 b.2 in
        elim (within h p.0) [
          | inl few ↦ (g.row, omega arith, column_upto m.0 k g.row (omega arith) m.2)
          | inr many ↦ (
            h.row,
            omega arith,
            alone_upto k h.row (at_row h is_wrong_alone p.0
                (search (or_left, or_right, lt-ltb 8 (length h.locators) many))),
          )
        ]

    wrong_found : (n : ℕ) → broken r rules.Locators n ≡ true → (m : ℕ) × (m ≤ n) × (wrong_upto r k m ≡ true)
    wrong_found n e =
        let f = any_in (λ (g : Group). g.row == n && has_wrong_locators r g) r.groups e in
        let g = f.0 in
        let p = and_parts (g.row == n) (has_wrong_locators r g) f.2 in
        let at : g.row ≡ n = eqb-true g.row n p.0 in
        rw (← at) (elim (or_cases (is_wrong_alone g) (repeats g) (sym (wrong_parts g) ∙ p.1)) [
          | inl alone ↦ (g.row, omega arith, alone_upto k g.row (at_row g is_wrong_alone f.1 alone))
          | inr shared ↦ let s = shared_with g shared in shared_upto s.0 g s.1 (s.2, f.1, s.3) s.4 s.5
        ])

    pub least_wrong : (o : Option ℕ) → IsLeastRow (wrong_upto r k) o → IsLeastRow (broken r rules.Locators) o
    least_wrong o = least_wider (wrong_upto r k) (broken r rules.Locators) o (upto_wrong k) wrong_found

  pub within_8 : AreWithin 8
  within_8 = λ g j. elim (cases_lt 8 (length g.locators)) [ inl many ↦ inr many | inr few ↦ inl few ]

  pub within_none : (k : ℕ) → list_any (λ (g : Group). nat_lt k (length g.locators)) r.groups ≡ false → AreWithin k
  within_none k e = λ g j. inl (ltb-false k (length g.locators)
      (fails_at (λ (g : Group). nat_lt k (length g.locators)) r.groups g e j))
