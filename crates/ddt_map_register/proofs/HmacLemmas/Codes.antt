-- The steps of the loops: bytes xored with a pad, and codes compared byte by byte.
use Rattle.std.proofs.Common.{◌≡◌, ℕ, ◌+◌, ◌<◌, ◌↔◌, List, [], ◌∷◌, ◌++◌, length, take, drop, map, replicate, get_or, set, bit_or, bit_xor, sym, ap, ◌∙◌, arith}
use Rattle.std.specs.Int.Bits.{xor_self, or_self, xor_add_and}
use Rattle.std.proofs.lemmas.Nat.{le_or_l, le_or_r, and_le_l, and_le_r}
use Rattle.std.proofs.lemmas.List.{take_more, take_more_same, take_more_set, same_from_push, map-append, drop-replicate}
use Rattle.ddt_map_register.specs.Hmac.Hmac.{xor_each, filled}

-- a key written over the front of a block of zeros
pub filled_front : (front key : List ℕ) → front ≡ key → front ++ drop (length key) (replicate 64 0) ≡ filled key
filled_front front key e = ap (λ (xs : List ℕ). xs ++ drop (length key) (replicate 64 0)) e ∙ ap (λ (xs : List ℕ). key ++ xs) (drop-replicate {X = ℕ} (length key) 64 0)

-- one more byte of a block
pub xor_step : (pad i : ℕ) (out block : List ℕ) → i < length out → i < length block → take i out ≡ xor_each pad (take i block)
    → take (i + 1) (set out i (bit_xor (get_or block i 0) pad)) ≡ xor_each pad (take (i + 1) block)
xor_step pad i out block in_out in_block so_far =
    let f : ℕ → ℕ = λ b. bit_xor b pad in
    let y = bit_xor (get_or block i 0) pad in
    take_more_set out i y in_out ∙ ap (λ (xs : List ℕ). xs ++ y ∷ []) so_far
    ∙ sym (map-append f (take i block) (get_or block i 0 ∷ [])) ∙ ap (map f) (sym (take_more block i 0 in_block))

-- numbers whose xor is 0 are equal
pub xor_none : (x y : ℕ) → bit_xor x y ≡ 0 → x ≡ y
xor_none x y e = omega (arith, xor_add_and x y, and_le_l x y, and_le_r x y)

-- one more byte of two codes
pub compare_step : (d i : ℕ) (xs ys : List ℕ) → i < length xs → i < length ys → (d ≡ 0) ↔ (take i xs ≡ take i ys)
    → (bit_or d (bit_xor (get_or xs i 0) (get_or ys i 0)) ≡ 0) ↔ (take (i + 1) xs ≡ take (i + 1) ys)
compare_step d i xs ys in_xs in_ys so_far =
    let x = get_or xs i 0 in
    let y = get_or ys i 0 in
    let z = bit_xor x y in (
      (λ none.
          let left : d ≡ 0 = omega (arith, le_or_l d z) in
          let right : z ≡ 0 = omega (arith, le_or_r d z) in
          take_more_same xs ys i 0 in_xs in_ys (so_far.0 left) (xor_none x y right)),
      (λ same.
          let parts = same_from_push (take i xs) (take i ys) x y (sym (take_more xs i 0 in_xs) ∙ same ∙ take_more ys i 0 in_ys) in
          let left : d ≡ 0 = so_far.1 parts.0 in
          let right : z ≡ 0 = ap (λ (n : ℕ). bit_xor n y) parts.1 ∙ xor_self y in
          ap (λ (n : ℕ). bit_or n z) left ∙ ap (λ (n : ℕ). bit_or 0 n) right ∙ or_self 0),
    )
