-- Sums over several pieces.
use Rattle.std.proofs.Common.{◌≡◌, ℕ, zero, suc, ◌+◌, ◌*◌, List, [], ◌∷◌, ◌++◌, length, refl, sym, ap, ◌∙◌, arith, length-append}
use Rattle.ddt_ecm.specs.Checksum.{ones_add, ones_sum}

-- a sum goes on behind a whole number of words
pub ones_sum-append : (k : ℕ) (xs ys : List ℕ) (s : ℕ) → length xs ≡ k * 2 → ones_sum s (xs ++ ys) ≡ ones_sum (ones_sum s xs) ys
ones_sum-append zero [] ys s e = refl
ones_sum-append zero (x ∷ xs) ys s e = absurd (omega arith)
ones_sum-append (suc k) [] ys s e = absurd (omega arith)
ones_sum-append (suc k) (x ∷ []) ys s e = absurd (omega arith)
ones_sum-append (suc k) (x ∷ y ∷ xs) ys s e = ones_sum-append k xs ys (ones_add s (x * 256 + y)) (omega arith)

-- three pieces
pub ones_sum-three : (k m : ℕ) (xs ys zs : List ℕ) (s a b c : ℕ) → length xs ≡ k * 2 → length ys ≡ m * 2 → a ≡ ones_sum s xs → b ≡ ones_sum a ys → c ≡ ones_sum b zs → c ≡ ones_sum s (xs ++ ys ++ zs)
ones_sum-three k m xs ys zs s a b c ex ey ea eb ec =
    let len : length (xs ++ ys) ≡ (k + m) * 2 = length-append xs ys ∙ omega arith in
    let two : ones_sum s (xs ++ ys) ≡ b = ones_sum-append k xs ys s ex ∙ sym (eb ∙ ap (λ (t : ℕ). ones_sum t ys) ea) in
    ec ∙ sym (ones_sum-append (k + m) (xs ++ ys) zs s len ∙ ap (λ (t : ℕ). ones_sum t zs) two)
