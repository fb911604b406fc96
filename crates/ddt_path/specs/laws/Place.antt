-- The digit of a path at a place, and the order of two paths by the first digit in which they differ.
use Rattle.std.proofs.Common.{◌≡◌, ℕ, zero, suc, ◌+◌, ◌-◌, ◌/◌, ◌%◌, ◌^◌, ◌<◌, Bool, true, false, cond, List, [], ◌∷◌, ◌++◌, length, take, Some, refl, sym, ap, ◌∙◌, arith}
use Rattle.std.specs.Prelude.{slice_get, ◌==◌}
use Rattle.std.specs.Cmp.{nat_cmp_total}
use Rattle.std.specs.declared.cmp.Ordering.{Ordering}
use Rattle.std.specs.declared.cmp.Ordering.TheVariants.{Less, Equal, Greater}
use Rattle.std.specs.Ordering.{nat_cmp, ordering_then}
use Rattle.std.specs.Option.{option_cmp}
use Rattle.std.specs.Cmp.Lexicographic.{slice_cmp}
use Rattle.std.proofs.lemmas.Bool.{eqb-true, eqb-false}
use Rattle.std.proofs.lemmas.Cmp.{tied_itself}
use Rattle.std.proofs.lemmas.Map.Lookups.{exact_unsigned}
use Rattle.ddt_path.specs.Path.{digits}
use Rattle.ddt_path.specs.Covers.{shared_len}

pub digit-at : (w x k : ℕ) → k < w → slice_get (digits w x) k ≡ Some (x / 2 ^ (w - 1 - k) % 2)
unfolding digits
digit-at zero x k lt = absurd (omega arith)
digit-at (suc w) x zero lt = let e : w ≡ suc w - 1 - 0 = omega arith in ap (λ (n : ℕ). Some (x / 2 ^ n % 2)) e
digit-at (suc w) x (suc k) lt =
    let e : w - 1 - k ≡ suc w - 1 - suc k = omega arith in
    digit-at w x k (omega arith) ∙ ap (λ (n : ℕ). Some (x / 2 ^ n % 2)) e

pub slice_get-take : {A : Type 0} (n : ℕ) (xs : List A) (k : ℕ) → k < n → slice_get (take n xs) k ≡ slice_get xs k
slice_get-take zero xs k lt = absurd (omega arith)
slice_get-take (suc n) [] k lt = refl
slice_get-take (suc n) (x ∷ xs) zero lt = refl
slice_get-take (suc n) (x ∷ xs) (suc k) lt = slice_get-take n xs k (omega arith)

pub slice_get-front : {A : Type 0} (xs ys : List A) (k : ℕ) → k < length xs → slice_get (xs ++ ys) k ≡ slice_get xs k
slice_get-front [] ys k lt = absurd (omega arith)
slice_get-front (x ∷ xs) ys zero lt = refl
slice_get-front (x ∷ xs) ys (suc k) lt = slice_get-front xs ys k (omega arith)

pub slice_get-behind : {A : Type 0} (xs ys : List A) (k : ℕ) → slice_get (xs ++ ys) (length xs + k) ≡ slice_get ys k
slice_get-behind [] ys k = ap (slice_get ys) (let e : 0 + k ≡ k = omega arith in e)
slice_get-behind (x ∷ xs) ys k =
    let e : suc (length xs) + k ≡ suc (length xs + k) = omega arith in
    rw e (slice_get-behind xs ys k)

-- two paths compare as they do at the first place in which they differ
apart_first : (o later : Ordering) → (o ≡ Equal → ⊥) → o ≡ ordering_then o later
apart_first Less later apart = refl
apart_first Equal later apart = absurd (apart refl)
apart_first Greater later apart = refl

tied : (x y : ℕ) → x ≡ y → nat_cmp x y ≡ Equal
tied x y same = ap (nat_cmp x) (sym same) ∙ tied_itself nat_cmp_total x

abbrev compared_at : List ℕ → List ℕ → ℕ → Ordering
compared_at p q k = option_cmp nat_cmp (slice_get p k) (slice_get q k)

cmp_case : (x y : ℕ) (p q : List ℕ) (b : Bool) → (x == y) ≡ b → compared_at p q (shared_len p q) ≡ slice_cmp nat_cmp p q → compared_at (x ∷ p) (y ∷ q) (cond b (1 + shared_len p q) 0) ≡ slice_cmp nat_cmp (x ∷ p) (y ∷ q)
cmp_case x y p q true e ih =
    let next : 1 + shared_len p q ≡ suc (shared_len p q) = omega arith in
    ap (compared_at (x ∷ p) (y ∷ q)) next ∙ ih ∙ ap (λ (o : Ordering). ordering_then o (slice_cmp nat_cmp p q)) (sym (tied x y (eqb-true x y e)))
cmp_case x y p q false e ih = apart_first (nat_cmp x y) (slice_cmp nat_cmp p q) (λ same. eqb-false x y e (exact_unsigned x y same))

pub cmp_at_shared : (p q : List ℕ) → compared_at p q (shared_len p q) ≡ slice_cmp nat_cmp p q
cmp_at_shared [] [] = refl
cmp_at_shared [] (y ∷ q) = refl
cmp_at_shared (x ∷ p) [] = refl
cmp_at_shared (x ∷ p) (y ∷ q) = cmp_case x y p q (x == y) refl (cmp_at_shared p q)
