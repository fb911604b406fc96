-- The order of paths: a path stands before all that it covers, and what it covers stands together.
use Rattle.std.proofs.Common.{◌≡◌, ℕ, Bool, true, false, cond, ltb, List, [], ◌∷◌, Ordering, Less, Equal, Greater, refl, sym, ap, subst, ◌∙◌, arith}
use Rattle.std.specs.Prelude.{◌==◌}
use Rattle.std.specs.Ordering.{nat_cmp, is_lt, is_le, is_eq, ordering_then, ordering_reverse}
use Rattle.std.specs.Cmp.Lexicographic.{slice_cmp, texts_ties, nat_list_cmp_total, bytes_decides}
use Rattle.std.proofs.lemmas.Bool.{true≢false, false≢true, both_ways, false_from_ne_true, and_parts, and_from, eqb-true, eq-eqb, ltb-false, le-ltb}
use Rattle.ddt_path.specs.Covers.{covers, is_same_path, is_strictly_below}
use Rattle.ddt_path.specs.laws.Cover.{below_from}

-- p stands before q or is q
abbrev pub IsUpTo : List ℕ → List ℕ → Type 0
IsUpTo p q = is_lt (slice_cmp nat_cmp q p) ≡ false

heads : (less same : Bool) (o : Ordering) → is_lt (ordering_then (cond less Less (cond same Equal Greater)) o) ≡ false
    → (less ≡ false) × (same ≡ true → is_lt o ≡ false)
heads true same o h = absurd (true≢false h)
heads false true o h = (refl, λ e. h)
heads false false o h = (refl, λ e. absurd (false≢true e))

-- what stands between a prefix and one that it covers is covered too
pub covers-between : (a b c : List ℕ) → IsUpTo a b → IsUpTo b c → covers a c ≡ true → covers a b ≡ true
covers-between [] b c up down inside = refl
covers-between (d ∷ p) [] c up down inside = absurd (true≢false up)
covers-between (d ∷ p) (e ∷ q) [] up down inside = absurd (false≢true inside)
covers-between (d ∷ p) (e ∷ q) (f ∷ r) up down inside =
    let s = and_parts (d == f) (covers p r) inside in
    let ends = eqb-true d f s.0 in
    let x = heads (ltb e d) (e == d) (slice_cmp nat_cmp q p) up in
    let y = heads (ltb f e) (f == e) (slice_cmp nat_cmp r q) down in
    let low = ltb-false e d x.0 in
    let high = ltb-false f e y.0 in
    let same : e ≡ d = omega arith in
    and_from (d == e) (covers p q) (eq-eqb d e (sym same)) (covers-between p q r (x.1 (eq-eqb e d same))
    (y.1 (eq-eqb f e (omega arith))) s.1)

-- what is covered by a prefix that doesn't stand before it is that prefix
pub covers-back : (a c : List ℕ) → IsUpTo a c → covers c a ≡ true → covers a c ≡ true
covers-back [] c up inside = refl
covers-back (d ∷ p) [] up inside = absurd (true≢false up)
covers-back (d ∷ p) (f ∷ r) up inside =
    let s = and_parts (f == d) (covers r p) inside in
    let x = heads (ltb f d) (f == d) (slice_cmp nat_cmp r p) up in
    and_from (d == f) (covers p r) (eq-eqb d f (sym (eqb-true f d s.0))) (covers-back p r (x.1 s.0) s.1)

-- a prefix stands before what it covers
pub covers-up_to : (a b : List ℕ) → covers a b ≡ true → IsUpTo a b
covers-up_to [] [] e = refl
covers-up_to [] (c ∷ q) e = refl
covers-up_to (d ∷ p) [] e = absurd (false≢true e)
covers-up_to (d ∷ p) (c ∷ q) e =
    let s = and_parts (d == c) (covers p q) e in
    let same = eqb-true d c s.0 in
    rw (le-ltb c d (omega arith), eq-eqb c d (sym same)) (covers-up_to p q s.1)

-- ---- by the answers of a comparison

lt_from : (a b c : List ℕ) (o : Ordering) → slice_cmp nat_cmp a b ≡ o → IsUpTo a b
    → is_lt (slice_cmp nat_cmp b c) ≡ true → is_lt (slice_cmp nat_cmp a c) ≡ true
lt_from a b c Less e up lt = ap is_lt (nat_list_cmp_total.trans a b c e (less (slice_cmp nat_cmp b c) lt))
  where
    less : (o : Ordering) → is_lt o ≡ true → o ≡ Less
    less Less h = refl
    less Equal h = absurd (false≢true h)
    less Greater h = absurd (false≢true h)
lt_from a b c Equal e up lt = ap is_lt (nat_list_cmp_total.congr a b c e) ∙ lt
lt_from a b c Greater e up lt = absurd (true≢false
    (sym (ap is_lt (nat_list_cmp_total.antisymm b a ∙ ap ordering_reverse e)) ∙ up))

-- what stands up to a path that stands below another stands below it
pub lt_after : (a b c : List ℕ) → IsUpTo a b → is_lt (slice_cmp nat_cmp b c) ≡ true
    → is_lt (slice_cmp nat_cmp a c) ≡ true
lt_after a b c up lt = lt_from a b c (slice_cmp nat_cmp a b) refl up lt

pub le-is : (a b : List ℕ) → is_le (slice_cmp nat_cmp a b) ≡ true → IsUpTo a b
le-is a b e = go (slice_cmp nat_cmp a b) (nat_list_cmp_total.antisymm b a) e
  where
    go : (o : Ordering) → slice_cmp nat_cmp b a ≡ ordering_reverse o → is_le o ≡ true
        → is_lt (slice_cmp nat_cmp b a) ≡ false
    go Less f h = ap is_lt f
    go Equal f h = ap is_lt f
    go Greater f h = absurd (false≢true h)

pub le-from : (a b : List ℕ) → IsUpTo a b → is_le (slice_cmp nat_cmp a b) ≡ true
le-from a b e = go (slice_cmp nat_cmp a b) (nat_list_cmp_total.antisymm b a)
  where
    go : (o : Ordering) → slice_cmp nat_cmp b a ≡ ordering_reverse o → is_le o ≡ true
    go Less f = refl
    go Equal f = refl
    go Greater f = absurd (true≢false (sym (ap is_lt f) ∙ e))

pub up_to_trans : (a b c : List ℕ) → IsUpTo a b → IsUpTo b c → IsUpTo a c
up_to_trans a b c e f = false_from_ne_true (is_lt (slice_cmp nat_cmp c a))
    (λ lt. both_ways (is_lt (slice_cmp nat_cmp b a)) e (lt_after b c a f lt))

pub not_lt-from_not_le : (o : Ordering) → is_le o ≡ false → is_lt o ≡ false
not_lt-from_not_le Less e = absurd (true≢false e)
not_lt-from_not_le Equal e = refl
not_lt-from_not_le Greater e = refl

-- ---- where two are one

tie_of : (o p : Ordering) → o ≡ ordering_reverse p → is_lt o ≡ false → is_lt p ≡ false → is_eq o ≡ true
tie_of o Less e f g = absurd (true≢false g)
tie_of o Equal e f g = ap is_eq e
tie_of o Greater e f g = absurd (true≢false (sym (ap is_lt e) ∙ f))

-- two that stand up to each other are one
pub same_from_ties : (a b : List ℕ) → IsUpTo a b → IsUpTo b a → is_same_path a b ≡ true
same_from_ties a b up down = texts_ties a b ∙ tie_of (slice_cmp nat_cmp a b) (slice_cmp nat_cmp b a)
    (nat_list_cmp_total.antisymm a b) down up

pub not_below_itself : (a b : List ℕ) → is_same_path a b ≡ true → is_lt (slice_cmp nat_cmp a b) ≡ false
not_below_itself a b same = go (slice_cmp nat_cmp a b) (sym (texts_ties a b) ∙ same)
  where
    go : (o : Ordering) → is_eq o ≡ true → is_lt o ≡ false
    go Less h = absurd (false≢true h)
    go Equal h = refl
    go Greater h = refl

pub is_same_path-between : (a b c : List ℕ) → IsUpTo a b → IsUpTo b c → IsUpTo a c → is_same_path a c ≡ true
    → is_same_path a b ≡ true
is_same_path-between a b c up down far e =
    let back : IsUpTo b a = subst (λ (p : List ℕ). IsUpTo b p) (sym ((bytes_decides a c).0 e)) down in
    same_from_ties a b up back

-- what a path covers and stands behind it is strictly below it
pub below_behind : (a b : List ℕ) → covers a b ≡ true → is_le (slice_cmp nat_cmp b a) ≡ false → is_strictly_below b a ≡ true
below_behind a b inside behind =
    below_from b a inside (false_from_ne_true (covers b a) (λ back.
    both_ways (is_le (slice_cmp nat_cmp b a)) behind (le-from b a (covers-up_to b a back))))
