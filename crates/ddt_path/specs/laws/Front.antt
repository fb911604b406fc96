-- Two fronts of one path, and what is strictly below another.
use Rattle.std.proofs.Common.{◌≡◌, ℕ, ◌<◌, ◌≤◌, Bool, true, false, not, List, [], ◌∷◌, length, take, refl, sym, ap, ◌∙◌, arith, inl, inr}
use Rattle.std.specs.Prelude.{◌==◌, ◌&&◌, ◌||◌, nat_le}
use Rattle.std.proofs.lemmas.Bool.{and_parts, and_from, or_cases, or_left, or_right, false≢true, true≢false, eqb-true, eq-eqb, false_from_ne_true, cases_lt, le-leb, leb-true}
use Rattle.std.proofs.lemmas.List.{length-take}
use Rattle.ddt_path.specs.Covers.{covers, overlaps, is_same_path, is_strictly_below, shared_len}
use Rattle.ddt_path.specs.laws.Cover.{covers_self, covers_trans, front_covered, take-covered, length-covered, covered_same, below_from, below_is}
use Rattle.ddt_path.specs.laws.Share.{covers_both, shared_len-le, shared_len_le_second, covers-front}

-- of two fronts the longer begins with the shorter
pub front_covers : (p q x : List ℕ) → covers p x ≡ true → covers q x ≡ true → length p ≤ length q → covers p q ≡ true
front_covers [] q x c d le = refl
front_covers (a ∷ p) [] x c d le = absurd (omega arith)
front_covers (a ∷ p) (b ∷ q) [] c d le = absurd (false≢true c)
front_covers (a ∷ p) (b ∷ q) (e ∷ x) c d le =
    let s = and_parts (a == e) (covers p x) c in
    let t = and_parts (b == e) (covers q x) d in
    and_from (a == b) (covers p q) (eq-eqb a b (eqb-true a e s.0 ∙ sym (eqb-true b e t.0))) (front_covers p q x s.1 t.1 (omega arith))

pub shorter_front : (n k : ℕ) (x : List ℕ) → n ≤ k → covers (take n x) (take k x) ≡ true
shorter_front n k x le = front_covers (take n x) (take k x) x (front_covered n x) (front_covered k x) (omega (arith, length-take n x, length-take k x))

-- and two of one length are the same
pub one_front : (p q x : List ℕ) → covers p x ≡ true → covers q x ≡ true → length p ≡ length q → p ≡ q
one_front p q x c d e = covered_same p q (front_covers p q x c d (omega arith)) (omega arith)

pub front_below : (p q x : List ℕ) → covers p x ≡ true → covers q x ≡ true → length p < length q → is_strictly_below q p ≡ true
front_below p q x c d lt =
    below_from q p (front_covers p q x c d (omega arith))
    (false_from_ne_true (covers q p) (λ e. let le = length-covered q p e in absurd (omega arith)))

pub below_parts : (q p : List ℕ) → is_strictly_below q p ≡ true → (covers p q ≡ true) × (length p < length q)
below_parts q p e =
    let s = below_is q p e in
    elim (cases_lt (length p) (length q)) [
      | inl lt ↦ (s.0, lt)
      | inr le ↦ absurd (false≢true (sym s.1 ∙ ap (covers q) (covered_same p q s.0 le) ∙ covers_self q))
    ]

-- of two that overlap the longer is strictly below the other
pub longer_below : (p q : List ℕ) → overlaps p q ≡ true → length q < length p → is_strictly_below p q ≡ true
longer_below p q o lt =
    elim (or_cases (covers p q) (covers q p) o) [
      | inl up ↦ let le = length-covered p q up in absurd (omega arith)
      | inr down ↦ front_below q p p down (covers_self p) lt
    ]

-- what overlaps a path overlaps each of its fronts
pub overlaps_front : (c z q : List ℕ) → covers c z ≡ true → overlaps z q ≡ true → overlaps c q ≡ true
overlaps_front c z q a o =
    elim (or_cases (covers z q) (covers q z) o) [
      | inl down ↦ or_left (covers c q) (covers q c) (covers_trans c z q a down)
      | inr up ↦ elim (cases_lt (length q) (length c)) [
        | inl lt ↦ or_right (covers c q) (covers q c) (front_covers q c z up a (omega arith))
        | inr le ↦ or_left (covers c q) (covers q c) (front_covers c q z a up le)
      ]
    ]

-- two paths that cover each other are one
pub one_path : (p q : List ℕ) → covers p q ≡ true → covers q p ≡ true → is_same_path p q ≡ true
one_path p q e f = sym (covers_both p q) ∙ and_from (covers p q) (covers q p) e f

-- two paths of which none is strictly below the other, and that aren't one, don't overlap
pub apart : (p q : List ℕ) → is_strictly_below p q ≡ false → is_strictly_below q p ≡ false → is_same_path p q ≡ false → overlaps p q ≡ false
apart p q down up other = go (covers p q) (covers q p) up down (covers_both p q ∙ other)
  where
    go : (c d : Bool) → (c && not d) ≡ false → (d && not c) ≡ false → (c && d) ≡ false → (c || d) ≡ false
    go false false up down both = refl
    go true false up down both = absurd (true≢false up)
    go false true up down both = absurd (true≢false down)
    go true true up down both = absurd (true≢false both)

-- ---- the longest common front

pub common_covers : (p q : List ℕ) → (covers (take (shared_len p q) p) p ≡ true) × (covers (take (shared_len p q) p) q ≡ true)
common_covers p q =
    let n = shared_len p q in (
      front_covered n p,
      covers-front n p q (shared_len-le p q)
          ∙ and_from (nat_le n (length q)) (nat_le n n) (le-leb n (length q) (shared_len_le_second p q)) (le-leb n n (omega arith)),
    )

pub common_is_longest : (p q front : List ℕ) → covers front p ≡ true → covers front q ≡ true → covers front (take (shared_len p q) p) ≡ true
common_is_longest p q front c d =
    let l = length front in
    let n = shared_len p q in
    let both : covers (take l p) q ≡ true = rw (take-covered front p c) d in
    let shared = (and_parts (nat_le l (length q)) (nat_le l n) (sym (covers-front l p q (length-covered front p c)) ∙ both)).1 in
    let le : l ≤ length (take n p) = omega (arith, leb-true l n shared, length-take n p, shared_len-le p q) in
    front_covers front (take n p) p c (common_covers p q).0 le
