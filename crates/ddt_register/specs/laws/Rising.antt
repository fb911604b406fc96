-- Items in rows that rise: each stands in a row of its own.
use Rattle.std.proofs.Common.{◌≡◌, ◌⊎◌, ℕ, zero, suc, ◌+◌, ◌<◌, ◌≤◌, Bool, true, false, cond, ◌&&◌, ◌==◌, List, [], ◌∷◌, length, get_or, map, drop, refl, sym, ap, subst, ◌∙◌, arith, inl, inr, nat_le}
use Rattle.std.specs.Prelude.{nat_lt}
use Rattle.std.specs.List.{list_any, filter}
use Rattle.std.proofs.lemmas.Bool.{and_parts, eq-eqb, lt-ltb, ltb-true}
use Rattle.ddt_path.specs.laws.Member.{IsIn, fails_at}
use Rattle.ddt_register.specs.declared.register.Register.{Register}
use Rattle.ddt_register.specs.Rows.{rise, zone_rows, site_rows, group_rows}

-- a rule that no row breaks is broken by no item
pub rule_kept : {A : Type 0} (row : A → ℕ) (test : A → Bool) (xs : List A) → ((n : ℕ) → list_any (λ z. row z == n && test z) xs ≡ false) → (x : A) → IsIn x xs → test x ≡ false
rule_kept row test xs h x k =
    let e = fails_at (λ z. row z == row x && test z) xs x (h (row x)) k in
    ap (λ (b : Bool). b && test x) (sym (eq-eqb (row x) (row x) refl)) ∙ e

-- rows that rise
pub rise_parts : (last row : ℕ) (rows : List ℕ) → rise last (row ∷ rows) ≡ true → (last < row) × (rise row rows ≡ true)
rise_parts last row rows e =
    let p = and_parts (nat_lt last row && nat_le row 65535) (rise row rows) e in
    (ltb-true last row (and_parts (nat_lt last row) (nat_le row 65535) p.0).0, p.1)

pub above : {A : Type 0} (row : A → ℕ) (xs : List A) (last : ℕ) (x : A) → rise last (map row xs) ≡ true → IsIn x xs → last < row x
above row [] last x e h = absurd h
above row (y ∷ xs) last x e (inl same) = let p = rise_parts last (row y) (map row xs) e in let q : row x ≡ row y = ap row same in omega (arith, p.0)
above row (y ∷ xs) last x e (inr later) =
    let p = rise_parts last (row y) (map row xs) e in
    let q = above row xs (row y) x p.1 later in
    omega (arith, p.0)

pub later_row : {A : Type 0} (row : A → ℕ) (xs : List A) (last i : ℕ) (x y : A) → rise last (map row xs) ≡ true → i < length xs → x ≡ get_or xs i x → IsIn y (drop (i + 1) xs) → row x < row y
later_row row [] last i x y e lt is k = absurd (omega arith)
later_row row (z ∷ xs) last zero x y e lt is k =
    let q : row x ≡ row z = ap row is in
    let up : row z < row y = above row xs (row z) y (rise_parts last (row z) (map row xs) e).1 k in
    omega arith
later_row row (z ∷ xs) last (suc i) x y e lt is k =
    let n : suc i + 1 ≡ suc (i + 1) = omega arith in
    later_row row xs (row z) i x y (rise_parts last (row z) (map row xs) e).1 (omega arith) is (subst (λ (m : ℕ). IsIn y (drop m (z ∷ xs))) n k)

-- two members are one, or stand in two rows
pub one_row : {A : Type 0} (row : A → ℕ) (xs : List A) (last : ℕ) (x y : A) → rise last (map row xs) ≡ true → IsIn x xs → IsIn y xs → (x ≡ y) ⊎ ((row x < row y) ⊎ (row y < row x))
one_row row [] last x y e h k = absurd h
one_row row (z ∷ xs) last x y e (inl a) (inl b) = inl (a ∙ sym b)
one_row row (z ∷ xs) last x y e (inl a) (inr k) =
    let q : row x ≡ row z = ap row a in
    let lt : row z < row y = above row xs (row z) y (rise_parts last (row z) (map row xs) e).1 k in
    inr (inl (omega arith))
one_row row (z ∷ xs) last x y e (inr h) (inl b) =
    let q : row y ≡ row z = ap row b in
    let lt : row z < row x = above row xs (row z) x (rise_parts last (row z) (map row xs) e).1 h in
    inr (inr (omega arith))
one_row row (z ∷ xs) last x y e (inr h) (inr k) = one_row row xs (row z) x y (rise_parts last (row z) (map row xs) e).1 h k

pub rise-lower : (low last : ℕ) (rows : List ℕ) → low ≤ last → rise last rows ≡ true → rise low rows ≡ true
rise-lower low last [] le e = refl
rise-lower low last (row ∷ rows) le e =
    let p = and_parts (nat_lt last row && nat_le row 65535) (rise row rows) e in
    let q = and_parts (nat_lt last row) (nat_le row 65535) p.0 in
    let lt : last < row = ltb-true last row q.0 in
    let under : low < row = omega arith in
    rw (lt-ltb low row under, q.1, p.1) refl

rise-kept : {A : Type 0} (row : A → ℕ) (x : A) (xs kept : List A) (last : ℕ) → rise last (row x ∷ map row xs) ≡ true → rise (row x) (map row kept) ≡ true → (b : Bool) → rise last (map row (cond b (x ∷ kept) kept)) ≡ true
rise-kept row x xs kept last e ih true =
    let p = and_parts (nat_lt last (row x) && nat_le (row x) 65535) (rise (row x) (map row xs)) e in
    rw (p.0, ih) refl
rise-kept row x xs kept last e ih false =
    let p = rise_parts last (row x) (map row xs) e in
    rise-lower last (row x) (map row kept) (let lt : last < row x = p.0 in omega arith) ih

pub rise-filter : {A : Type 0} (row : A → ℕ) (test : A → Bool) (xs : List A) (last : ℕ) → rise last (map row xs) ≡ true → rise last (map row (filter test xs)) ≡ true
rise-filter row test [] last e = refl
rise-filter row test (x ∷ xs) last e = rise-kept row x xs (filter test xs) last e (rise-filter row test xs (row x) (rise_parts last (row x) (map row xs) e).1) (test x)

pub zones_rise : (r : Register) → rise 0 (zone_rows r.zones) ≡ true
zones_rise r = (and_parts _ _ (and_parts _ _ r.rows).0).0

pub sites_rise : (r : Register) → rise 0 (site_rows r.sites) ≡ true
sites_rise r = (and_parts _ _ (and_parts _ _ (and_parts _ _ r.rows).0).1).0

pub groups_rise : (r : Register) → rise 0 (group_rows r.groups) ≡ true
groups_rise r = (and_parts _ _ (and_parts _ _ (and_parts _ _ r.rows).0).1).1

-- a test of an earlier row fails
pub earlier_fails : (m n : ℕ) (test : Bool) → m < n → (nat_lt m n && test) ≡ false → test ≡ false
earlier_fails m n test lt e = ap (λ (b : Bool). b && test) (sym (lt-ltb m n lt)) ∙ e
