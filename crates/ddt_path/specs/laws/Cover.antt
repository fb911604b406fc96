-- Fronts of paths. This file needs the specs of ddt_path alone.
use Rattle.std.proofs.Common.{◌≡◌, ℕ, zero, suc, ◌≤◌, Bool, true, false, List, [], ◌∷◌, ◌++◌, length, take, drop, refl, sym, ap, subst, ◌∙◌, arith}
use Rattle.std.specs.Prelude.{◌==◌, ◌&&◌, ◌||◌, not}
use Rattle.std.proofs.lemmas.Bool.{and_parts, and_from, both_ways, false_from_ne_true, false≢true, eqb-true, eq-eqb, not-true, not_from_false}
use Rattle.std.specs.Cmp.Lexicographic.{bytes_decides, nat_list_eq_equiv}
use Rattle.std.proofs.lemmas.List.{take-append-drop}
use Rattle.ddt_path.specs.Covers.{covers, overlaps, is_same_path, is_strictly_below}

pub eqb_self : (d : ℕ) → (d == d) ≡ true
eqb_self d = eq-eqb d d refl

pub covers_self : (p : List ℕ) → covers p p ≡ true
covers_self [] = refl
covers_self (d ∷ p) = and_from (d == d) (covers p p) (eqb_self d) (covers_self p)

pub covers_trans : (p q r : List ℕ) → covers p q ≡ true → covers q r ≡ true → covers p r ≡ true
covers_trans [] q r a b = refl
covers_trans (d ∷ p) [] r a b = absurd (false≢true a)
covers_trans (d ∷ p) (e ∷ q) [] a b = absurd (false≢true b)
covers_trans (d ∷ p) (e ∷ q) (f ∷ r) a b =
    let s = and_parts (d == e) (covers p q) a in
    let t = and_parts (e == f) (covers q r) b in
    and_from (d == f) (covers p r) (eq-eqb d f (eqb-true d e s.0 ∙ eqb-true e f t.0)) (covers_trans p q r s.1 t.1)

pub covers-append : (p r : List ℕ) → covers p (p ++ r) ≡ true
covers-append [] r = refl
covers-append (d ∷ p) r = and_from (d == d) (covers p (p ++ r)) (eqb_self d) (covers-append p r)

pub front_covered : (n : ℕ) (x : List ℕ) → covers (take n x) x ≡ true
front_covered n x = subst (λ (y : List ℕ). covers (take n x) y ≡ true) (take-append-drop n x) (covers-append (take n x) (drop n x))

-- a front that covers is what is taken at its length
pub take-covered : (p q : List ℕ) → covers p q ≡ true → take (length p) q ≡ p
take-covered [] q a = refl
take-covered (d ∷ p) [] a = absurd (false≢true a)
take-covered (d ∷ p) (e ∷ q) a =
    let s = and_parts (d == e) (covers p q) a in
    ap (λ (h : ℕ). h ∷ take (length p) q) (sym (eqb-true d e s.0)) ∙ ap (λ (l : List ℕ). d ∷ l) (take-covered p q s.1)

pub length-covered : (p q : List ℕ) → covers p q ≡ true → length p ≤ length q
length-covered [] q a = omega arith
length-covered (d ∷ p) [] a = absurd (false≢true a)
length-covered (d ∷ p) (e ∷ q) a = omega (arith, length-covered p q (and_parts (d == e) (covers p q) a).1)

-- what is covered and no longer is the same
pub covered_same : (p q : List ℕ) → covers p q ≡ true → length q ≤ length p → p ≡ q
covered_same [] [] a le = refl
covered_same [] (e ∷ q) a le = absurd (omega arith)
covered_same (d ∷ p) [] a le = absurd (false≢true a)
covered_same (d ∷ p) (e ∷ q) a le =
    let s = and_parts (d == e) (covers p q) a in
    ap (λ (h : ℕ). h ∷ p) (eqb-true d e s.0) ∙ ap (λ (l : List ℕ). e ∷ l) (covered_same p q s.1 (omega arith))

-- behind two lists of one length the rests are covered too
pub covers_rest : (p q r s : List ℕ) → length p ≡ length q → covers (p ++ r) (q ++ s) ≡ true → covers r s ≡ true
covers_rest [] [] r s n a = a
covers_rest [] (e ∷ q) r s n a = absurd (omega arith)
covers_rest (d ∷ p) [] r s n a = absurd (omega arith)
covers_rest (d ∷ p) (e ∷ q) r s n a = covers_rest p q r s (omega arith) (and_parts (d == e) (covers (p ++ r) (q ++ s)) a).1

both_heads : (a b c e : Bool) → a ≡ true → b ≡ true → (c || e) ≡ true → ((a && c) || (b && e)) ≡ true
both_heads true true c e p q h = h
both_heads true false c e p q h = absurd (false≢true q)
both_heads false b c e p q h = absurd (false≢true p)

-- what covers x overlaps each front of x
pub overlaps-take : (p x : List ℕ) (n : ℕ) → covers p x ≡ true → overlaps p (take n x) ≡ true
overlaps-take [] x n a = refl
overlaps-take (d ∷ p) x zero a = refl
overlaps-take (d ∷ p) [] (suc n) a = absurd (false≢true a)
overlaps-take (d ∷ p) (e ∷ x) (suc n) a =
    let s = and_parts (d == e) (covers p x) a in
    both_heads (d == e) (e == d) (covers p (take n x)) (covers (take n x) p) s.0 (eq-eqb e d (sym (eqb-true d e s.0))) (overlaps-take p x n s.1)

-- and all else that covers x
pub fronts_overlap : (p q x : List ℕ) → covers p x ≡ true → covers q x ≡ true → overlaps p q ≡ true
fronts_overlap p q x a b = ap (overlaps p) (sym (take-covered q x b)) ∙ overlaps-take p x (length q) a

-- a longer front shows the next digit
pub next_digit : (f : List ℕ) (d : ℕ) (r : List ℕ) → covers (f ++ d ∷ []) (f ++ r) ≡ true → (rest : List ℕ) × (r ≡ d ∷ rest)
next_digit [] d [] a = absurd (false≢true a)
next_digit [] d (e ∷ r) a = (r, ap (λ (h : ℕ). h ∷ r) (sym (eqb-true d e (and_parts (d == e) true a).0)))
next_digit (h ∷ f) d r a = next_digit f d r (and_parts (h == h) (covers (f ++ d ∷ []) (f ++ r)) a).1

-- two paths that pass for one are one, and one path passes
pub same_path : (p q : List ℕ) → is_same_path p q ≡ true → p ≡ q
same_path p q e = (bytes_decides p q).0 e

pub path_itself : (p q : List ℕ) → p ≡ q → is_same_path p q ≡ true
path_itself p q e = (bytes_decides p q).1 e

pub same_path-flips : (p q : List ℕ) → is_same_path p q ≡ true → is_same_path q p ≡ true
same_path-flips p q e = nat_list_eq_equiv.symm q p ∙ e

-- ---- strictly below

pub below_from : (p q : List ℕ) → covers q p ≡ true → covers p q ≡ false → is_strictly_below p q ≡ true
below_from p q down up = and_from (covers q p) (not (covers p q)) down (not_from_false (covers p q) up)

pub below_is : (p q : List ℕ) → is_strictly_below p q ≡ true → (covers q p ≡ true) × (covers p q ≡ false)
below_is p q e =
    let s = and_parts (covers q p) (not (covers p q)) e in
    (s.0, not-true (covers p q) s.1)

-- what covers q has strictly below it what q has
pub below_wider : (p q r : List ℕ) → covers r q ≡ true → is_strictly_below p q ≡ true → is_strictly_below p r ≡ true
below_wider p q r wide e =
    let s = below_is p q e in
    below_from p r (covers_trans r q p wide s.0)
    (false_from_ne_true (covers p r) (λ back. both_ways (covers p q) s.1 (covers_trans p r q back wide)))
