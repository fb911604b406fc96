-- The digits of numbers under shifts, masks and xor, over any width.
use Rattle.std.proofs.Common.{◌≡◌, ℕ, zero, suc, ◌+◌, ◌-◌, ◌*◌, ◌/◌, ◌%◌, ◌^◌, ◌<◌, ◌≤◌, List, ◌∷◌, ◌++◌, length, take, refl, ap, ◌∙◌, arith}
use Rattle.std.specs.Prelude.{replicate, bit_and}
use Rattle.std.specs.Int.Digits.{number_from_digits_after}
use Rattle.std.proofs.lemmas.Nat.{shr-shr, mod-pow-add, pow-add, shl-shr}
use Rattle.std.proofs.lemmas.Nat.Bits.{and_high_mask, ones_shl}
use Rattle.std.proofs.lemmas.List.{take_at}
use Rattle.ddt_path.specs.Path.{digits}

pub length-digits : (w x : ℕ) → length (digits w x) ≡ w
unfolding digits
length-digits zero x = refl
length-digits (suc w) x = ap suc (length-digits w x)

-- the digits of a number are those of its high part and then those of its low part
pub digits-add : (m k v : ℕ) → digits (m + k) v ≡ digits m (v / 2 ^ k) ++ digits k v
unfolding digits
digits-add zero k v = ap (λ (n : ℕ). digits n v) (let e : 0 + k ≡ k = omega arith in e)
digits-add (suc m) k v =
    let e : suc m + k ≡ suc (m + k) = omega arith in
    let g : k + m ≡ m + k = omega arith in
    let f : v / 2 ^ k / 2 ^ m ≡ v / 2 ^ (m + k) = shr-shr v k m ∙ ap (λ (n : ℕ). v / 2 ^ n) g in
    rw (e, f, digits-add m k v) refl

-- the low digits of a number are 0 where it is shifted
digits-shifted : (j i h : ℕ) → digits j (h * 2 ^ (j + i)) ≡ replicate j 0
unfolding digits
digits-shifted zero i h = refl
digits-shifted (suc j) i h =
    let e : suc j + i ≡ j + suc i = omega arith in
    let f : suc j + i ≡ (i + 1) + j = omega arith in
    let double : 2 ^ (i + 1) ≡ 2 ^ i * 2 = pow-add 2 i 1 in
    let first : h * 2 ^ (suc j + i) / 2 ^ j % 2 ≡ 0 =
    rw (f, pow-add 2 (i + 1) j)
    (let g : h * (2 ^ (i + 1) * 2 ^ j) ≡ (h * 2 ^ (i + 1)) * 2 ^ j = grind arith in
    rw (g, shl-shr (h * 2 ^ (i + 1)) j, double)
    (let k : h * (2 ^ i * 2) ≡ (h * 2 ^ i) * 2 = grind arith in rw k (omega arith))) in
    rw first (ap (λ (ds : List ℕ). 0 ∷ ds) (ap (λ (n : ℕ). digits j (h * 2 ^ n)) e ∙ digits-shifted j (suc i) h))

pub digits-shl : (k h : ℕ) → digits k (h * 2 ^ k) ≡ replicate k 0
digits-shl k h = ap (λ (n : ℕ). digits k (h * 2 ^ n)) (let e : k ≡ k + 0 = omega arith in e) ∙ digits-shifted k 0 h

pub digits-zero : (k : ℕ) → digits k 0 ≡ replicate k 0
digits-zero k = ap (digits k) (let e : 0 ≡ 0 * 2 ^ k = omega arith in e) ∙ digits-shl k 0

-- the first digits are those of the high part
pub take-digits : (w l x : ℕ) → l ≤ w → take l (digits w x) ≡ digits l (x / 2 ^ (w - l))
take-digits w l x le =
    let e : w ≡ l + (w - l) = omega arith in
    ap (λ (n : ℕ). take l (digits n x)) e ∙ rw (digits-add l (w - l) x)
    (take_at (digits l (x / 2 ^ (w - l))) (digits (w - l) x) l (length-digits l (x / 2 ^ (w - l))))

-- a number with its low part cleared
pub digits-cleared : (w l x : ℕ) → l ≤ w → digits w (x / 2 ^ (w - l) * 2 ^ (w - l)) ≡ take l (digits w x)
    ++ replicate (w - l) 0
digits-cleared w l x le =
    let k = w - l in
    let e : w ≡ l + k = omega arith in
    let v = x / 2 ^ k * 2 ^ k in
    ap (λ (n : ℕ). digits n v) e ∙ digits-add l k v
    ∙ rw (shl-shr (x / 2 ^ k) k, digits-shl k (x / 2 ^ k), take-digits w l x le) refl

pub digits-masked : (w l x : ℕ) → l ≤ w → x < 2 ^ w → digits w (bit_and x ((2 ^ w - 1) * 2 ^ (w - l) % 2 ^ w))
    ≡ take l (digits w x) ++ replicate (w - l) 0
digits-masked w l x le small =
    let within : w - l ≤ w = omega arith in
    rw (ones_shl w (w - l) within, and_high_mask w (w - l) within x small) (digits-cleared w l x le)

-- the number that binary digits spell
pub number_after-digits : (w n x : ℕ) → number_from_digits_after 2 n (digits w x) ≡ n * 2 ^ w + x % 2 ^ w
unfolding digits
number_after-digits zero n x = omega arith
number_after-digits (suc w) n x =
    let e : suc w ≡ 1 + w = omega arith in
    let d = x / 2 ^ w % 2 in
    let split : x % 2 ^ (1 + w) ≡ (x / 2 ^ w % 2 ^ 1) * 2 ^ w + x % 2 ^ w = mod-pow-add x 1 w in
    let double : 2 ^ (1 + w) ≡ 2 * 2 ^ w = pow-add 2 1 w in
    number_after-digits w (n * 2 + d) x ∙ rw (e, split, double) (grind arith)
