-- A sum over bytes is the plain one, folded, and is right where their checksum is in place.
use Rattle.std.proofs.Common.{◌≡◌, ℕ, zero, suc, ◌+◌, ◌*◌, ◌<◌, ◌≤◌, true, false, ltb, eqb, List, [], ◌∷◌, ◌++◌, length, refl, subst, arith, inl, inr}
use Rattle.std.specs.Prelude.{slice_index}
use Rattle.std.specs.Int.{w16, to_be_bytes}
use Rattle.std.proofs.lemmas.Bool.{cases_lt, lt-ltb, le-ltb, ne_eqb}
use Rattle.ddt_path.specs.Steps.{IsBytes}
use Rattle.ddt_path.specs.laws.Byte.{IsBytes-drop}
use Rattle.ddt_ecm.specs.Checksum.{ones_add, ones_sum, complement}
use Rattle.ddt_ecm.specs.UdpHeader.{not_absent}

-- the plain sum of the words
abbrev pub words : List ℕ → ℕ
words [] = 0
words (a ∷ []) = a * 256
words (a ∷ b ∷ rest) = a * 256 + b + words rest

-- a one's complement sum is the plain one less some times 65535, and is 0 only where that is
pub record IsFolded (sum total : ℕ) : Type 0 where
  pub times : ℕ
  pub folds : sum + 65535 * times ≡ total
  pub small : sum ≤ 65535
  pub some : 0 < total → 0 < sum

added : (a b : ℕ) → a ≤ 65535 → b ≤ 65535 → IsFolded (ones_add a b) (a + b)
added a b ha hb = elim (cases_lt (a + b) 65536) [
  | inl lt ↦ let e : ltb (a + b) 65536 ≡ true = lt-ltb _ _ lt in rw e (record { times = 0; folds = omega arith; small = omega arith; some = λ h. h })
  | inr le ↦ let e : ltb (a + b) 65536 ≡ false = le-ltb _ _ le in rw e (record { times = 1; folds = omega arith; small = omega arith; some = λ h. omega arith })
]

chained : (s w rest total : ℕ) (r : ℕ) → IsFolded (ones_add s w) (s + w) → IsFolded r (ones_add s w + rest) → IsFolded r (s + (w + rest))
chained s w rest total r p q = record {
  times = p.times + q.times;
  folds = omega (arith, p.folds, q.folds);
  small = q.small;
  some = λ h. q.some (elim (cases_lt 0 (s + w)) [ inl lt ↦ let a : 0 < ones_add s w = p.some lt in omega arith | inr le ↦ omega arith ]);
}

pub folded : (s : ℕ) (bytes : List ℕ) → s ≤ 65535 → IsBytes bytes → IsFolded (ones_sum s bytes) (s + words bytes)
folded s [] hs fits = record { times = 0; folds = omega arith; small = hs; some = λ h. omega arith }
folded s (a ∷ []) hs fits = added s (a * 256) hs (omega (arith, fits.at 0))
folded s (a ∷ b ∷ rest) hs fits =
    let one = added s (a * 256 + b) hs (omega (arith, fits.at 0, fits.at 1)) in
    chained s (a * 256 + b) (words rest) 0 (ones_sum s (a ∷ b ∷ rest)) one (folded (ones_add s (a * 256 + b)) rest one.small (IsBytes-drop 2 (a ∷ b ∷ rest) fits))

-- what a total folds to is one number
only_fold : (a b total : ℕ) → IsFolded a total → IsFolded b total → a ≡ b
only_fold a b total p q = elim (cases_lt 0 total) [
  | inl lt ↦ omega (arith, p.folds, q.folds, p.small, q.small, p.some lt, q.some lt)
  | inr le ↦ omega (arith, p.folds, q.folds)
]

-- the plain sum folded at the end is the one's complement sum
pub folded_last : (s total sum : ℕ) (bytes : List ℕ) → s ≤ 65535 → IsBytes bytes → IsFolded sum total → total ≡ s + words bytes → sum ≡ ones_sum s bytes
folded_last s total sum bytes hs fits f e = only_fold sum (ones_sum s bytes) (s + words bytes) (subst (λ (t : ℕ). IsFolded sum t) e f) (folded s bytes hs fits)

-- the words of bytes, by how many there are
pub words_one : (xs : List ℕ) → length xs < 2 → (length xs ≡ 0 → ⊥) → words xs ≡ slice_index xs 0 * 256
words_one [] h some = absurd (some refl)
words_one (x ∷ []) h some = refl
words_one (x ∷ y ∷ xs) h some = absurd (omega arith)

pub words_none : (xs : List ℕ) → length xs ≡ 0 → words xs ≡ 0
words_none [] e = refl
words_none (x ∷ xs) e = absurd (omega arith)

-- a total that is a multiple of 65535, and not 0, folds to 65535
right_total : (sum total times : ℕ) → IsFolded sum total → total ≡ 65535 * (times + 1) → sum ≡ 65535
right_total sum total times f e =
    let some : 0 < sum = f.some (omega arith) in
    omega (arith, f.folds, f.small)

words-append : (k : ℕ) (xs ys : List ℕ) → length xs ≡ k * 2 → words (xs ++ ys) ≡ words xs + words ys
words-append zero [] ys e = omega arith
words-append zero (x ∷ xs) ys e = absurd (omega arith)
words-append (suc k) [] ys e = absurd (omega arith)
words-append (suc k) (x ∷ []) ys e = absurd (omega arith)
words-append (suc k) (x ∷ y ∷ xs) ys e = let h = words-append k xs ys (omega arith) in omega arith

words-field : (c : ℕ) (post : List ℕ) → c < 65536 → words (to_be_bytes w16 c ++ post) ≡ c + words post
words-field c post lt = omega arith

with_field : (k : ℕ) (pre post : List ℕ) (c : ℕ) → length pre ≡ k * 2 → c < 65536 → words (pre ++ (to_be_bytes w16 c ++ post)) ≡ words (pre ++ (to_be_bytes w16 0 ++ post)) + c
with_field k pre post c e lt =
    let a = words-append k pre (to_be_bytes w16 c ++ post) e in
    let b = words-append k pre (to_be_bytes w16 0 ++ post) e in
    let f = words-field c post lt in
    let g = words-field 0 post (omega arith) in
    omega arith

-- a field of 16 bits that fills up to all ones, or that and 65535 more
filled : (s k : ℕ) (pre post : List ℕ) (c more : ℕ) → s ≤ 65535 → length pre ≡ k * 2 → ((x : ℕ) → IsBytes (pre ++ (to_be_bytes w16 x ++ post))) → c < 65536
    → c ≡ complement (ones_sum s (pre ++ (to_be_bytes w16 0 ++ post))) + 65535 * more → ones_sum s (pre ++ (to_be_bytes w16 c ++ post)) ≡ 65535
filled s k pre post c more hs e fits lt is =
    let zeros = pre ++ (to_be_bytes w16 0 ++ post) in
    let whole = pre ++ (to_be_bytes w16 c ++ post) in
    let f0 = folded s zeros hs (fits 0) in
    let f = folded s whole hs (fits c) in
    let w = with_field k pre post c e lt in
    right_total (ones_sum s whole) (s + words whole) (f0.times + more) f (omega (arith, f0.folds, f0.small, w, is))

pub checksum_right : (s k : ℕ) (pre post : List ℕ) → s ≤ 65535 → length pre ≡ k * 2 → ((x : ℕ) → IsBytes (pre ++ (to_be_bytes w16 x ++ post)))
    → ones_sum s (pre ++ (to_be_bytes w16 (complement (ones_sum s (pre ++ (to_be_bytes w16 0 ++ post)))) ++ post)) ≡ 65535
checksum_right s k pre post hs e fits = filled s k pre post (complement (ones_sum s (pre ++ (to_be_bytes w16 0 ++ post)))) 0 hs e fits (omega arith) (omega arith)

-- the same where 65535 stands in place of a checksum of 0
pub present_right : (s k : ℕ) (pre post : List ℕ) (c : ℕ) → s ≤ 65535 → length pre ≡ k * 2 → ((x : ℕ) → IsBytes (pre ++ (to_be_bytes w16 x ++ post))) → c ≡ complement (ones_sum s (pre ++ (to_be_bytes w16 0 ++ post)))
    → ones_sum s (pre ++ (to_be_bytes w16 (not_absent c) ++ post)) ≡ 65535
present_right s k pre post zero hs e fits is = filled s k pre post 65535 1 hs e fits (omega arith) (omega (arith, is))
present_right s k pre post (suc c) hs e fits is =
    let other : eqb (suc c) 0 ≡ false = ne_eqb (suc c) 0 (λ q. omega arith) in
    rw other (filled s k pre post (suc c) 0 hs e fits (omega (arith, is)) (omega (arith, is)))
