-- How many leading digits two numbers share is the count of leading zeros of their xor.
use Rattle.std.proofs.Common.{◌≡◌, ℕ, zero, suc, ◌+◌, ◌*◌, ◌/◌, ◌%◌, ◌^◌, ◌<◌, ◌≤◌, refl, sym, ap, ◌∙◌, arith}
use Rattle.std.specs.Prelude.{bit_xor, ◌≢◌}
use Rattle.std.specs.Int.{bit_at}
use lib.Count.{count_leading_zeros}
use Rattle.std.proofs.lemmas.Nat.{leading_length, xor_shr, pow-add, pow_pos, div_below, le-div}
use Rattle.std.proofs.lemmas.Nat.Bits.{bit_at_xor}
use lib.Bits.{xor_assoc, xor_self, xor_zero_r, xor_zero_l}
use Rattle.ddt_path.specs.Path.{digits}
use Rattle.ddt_path.specs.Covers.{shared_len}
use Rattle.ddt_path.specs.DigitLemmas.{digits-add, length-digits}
use Rattle.ddt_path.specs.laws.Share.{shared_len-append, shared_len-differ}

same_from_xor : (a b : ℕ) → bit_xor a b ≡ 0 → a ≡ b
same_from_xor a b e =
    sym (xor_zero_r a) ∙ ap (bit_xor a) (sym (xor_self b)) ∙ sym (xor_assoc a b b) ∙ ap (λ (n : ℕ). bit_xor n b) e ∙ xor_zero_l b

div_small : (n m : ℕ) → n < 2 ^ m → n / 2 ^ m ≡ 0
div_small n m h = let below : n / 2 ^ m < 1 = div_below n (2 ^ m) 1 (pow_pos m) (omega arith) in omega arith

double_is_even : (d : ℕ) → 1 ≡ (d + d) % 2 → ⊥
double_is_even d e = omega arith

-- the rests differ at once
none_shared : (m a b : ℕ) → 2 ^ m ≤ 2 * bit_xor a b + 1 → bit_xor a b < 2 ^ m → shared_len (digits m a) (digits m b) ≡ 0
unfolding digits
none_shared zero a b low high = refl
none_shared (suc j) a b low high =
    let double : 2 ^ suc j ≡ 2 * 2 ^ j = ap (λ (n : ℕ). 2 ^ n) (omega arith) ∙ pow-add 2 1 j in
    let n = bit_xor a b in
    let above : 2 ^ j ≤ n = omega arith in
    let top : n / 2 ^ j ≡ 1 =
    let lt : n / 2 ^ j < 2 = div_below n (2 ^ j) 2 (pow_pos j) (omega arith) in
    let ge : 1 ≤ n / 2 ^ j = le-div 1 n (2 ^ j) (pow_pos j) (omega arith) in
    omega arith in
    let bits : bit_at n j ≡ (bit_at a j + bit_at b j) % 2 = bit_at_xor a b j in
    let one : n / 2 ^ j % 2 ≡ 1 = rw top refl in
    let apart : a / 2 ^ j % 2 ≢ b / 2 ^ j % 2 = λ same. double_is_even (b / 2 ^ j % 2) (sym one ∙ bits ∙ ap (λ (d : ℕ). (d + b / 2 ^ j % 2) % 2) same) in
    shared_len-differ (a / 2 ^ j % 2) (b / 2 ^ j % 2) (digits j a) (digits j b) apart

pub shared_len-digits : (w a b : ℕ) → a < 2 ^ w → b < 2 ^ w → bit_xor a b < 2 ^ w → shared_len (digits w a) (digits w b) ≡ count_leading_zeros w (bit_xor a b)
shared_len-digits w a b ha hb hx =
    let t = leading_length w (bit_xor a b) hx in
    let z = count_leading_zeros w (bit_xor a b) in
    let m = t.0 in
    let whole : w ≡ z + m = sym t.1 in
    let equal : a / 2 ^ m ≡ b / 2 ^ m = same_from_xor (a / 2 ^ m) (b / 2 ^ m) (sym (xor_shr a b m) ∙ div_small (bit_xor a b) m t.2) in
    let rest : shared_len (digits m a) (digits m b) ≡ 0 = none_shared m a b t.3 t.2 in
    ap (λ (n : ℕ). shared_len (digits n a) (digits n b)) whole
    ∙ rw (digits-add z m a, digits-add z m b, equal, shared_len-append (digits z (b / 2 ^ m)) (digits m a) (digits m b), length-digits z (b / 2 ^ m), rest) (omega arith)
