-- A byte with its bit of value 4.
use Rattle.std.proofs.Common.{◌≡◌, ℕ, zero, suc, ◌+◌, ◌*◌, ◌/◌, ◌%◌, ◌<◌, Bool, true, false, List, [], ◌∷◌, length, get_or, set, refl, sym, ap, ◌∙◌, bit_or, arith, inl, inr}
use Rattle.std.specs.Prelude.{◌==◌, ◌&&◌}
use Rattle.std.proofs.lemmas.Bool.{and_parts, cases_lt, false≢true}
use Rattle.std.proofs.Common.{eqb-true}
use Rattle.ddt_daemon.specs.Onward.{with_d}

abbrev is_set : ℕ → Bool
is_set b = bit_or b 4 == b / 8 * 8 + 4 + b % 4

unfoldable below : ℕ → Bool
below zero = true
below (suc n) = is_set n && below n

each_below : (n b : ℕ) → below n ≡ true → b < n → is_set b ≡ true
unfolding below
each_below zero b all lt = absurd (omega arith)
each_below (suc n) b all lt =
    let parts = and_parts (is_set n) (below n) all in
    elim (cases_lt b n) [
      | inl less ↦ each_below n b parts.1 less
      | inr more ↦ let same : n ≡ b = omega arith in ap is_set (sym same) ∙ parts.0
    ]

pub or_four : (b : ℕ) → b < 256 → bit_or b 4 ≡ b / 8 * 8 + 4 + b % 4
unfolding below
or_four b lt = eqb-true (bit_or b 4) (b / 8 * 8 + 4 + b % 4) (each_below 256 b refl lt)

-- the bytes after the write to the first of them, if there is one
pub with_d-set : (bytes : List ℕ) (n b : ℕ) → n ≡ length bytes → false ≡ (n == 0) → b ≡ get_or bytes 0 b → b < 256 → set bytes 0 (bit_or b 4) ≡ with_d bytes
with_d-set [] n b len some read fits = absurd (false≢true (some ∙ ap (λ (k : ℕ). k == 0) len))
with_d-set (first ∷ others) n b len some read fits = ap (λ (k : ℕ). k ∷ others) (or_four b fits) ∙ ap (λ (k : ℕ). (k / 8 * 8 + 4 + k % 4) ∷ others) read

pub with_d-empty : (bytes : List ℕ) (n : ℕ) → n ≡ length bytes → true ≡ (n == 0) → bytes ≡ with_d bytes
with_d-empty [] n len none = refl
with_d-empty (first ∷ others) n len none = let zero_long : n ≡ 0 = eqb-true n 0 (sym none) in absurd (omega arith)
