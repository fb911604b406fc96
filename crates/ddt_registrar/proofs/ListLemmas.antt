-- The item that takes the place of an older one.
use Rattle.std.proofs.Common.{◌≡◌, ℕ, suc, ◌+◌, Bool, true, false, cond, List, [], ◌∷◌, ◌++◌, set, Some, None, refl, sym, ap, ◌∙◌, arith}
use Rattle.std.specs.Prelude.{position}
use Rattle.std.specs.List.{position_from}
use Rattle.std.proofs.lemmas.Iterator.Adapters.{position_from-zero}
use Rattle.std.proofs.lemmas.Option.{none-some, same_Some}
use Rattle.ddt_registrar.specs.Lists.{put_by}

module _ {A : Type 0} (same : A → Bool) (new : A) where
  put_from : (n : ℕ) (xs : List A) (at : ℕ) → position_from same n xs ≡ Some at → (k : ℕ) × (at ≡ n + k) × (set xs k new ≡ put_by same new xs)
  put_from n [] at e = absurd (none-some at e)
  put_from n (x ∷ xs) at e = go (same x) e (put_from (n + 1) xs at)
    where
      go : (b : Bool) → cond b (Some n) (position_from same (n + 1) xs) ≡ Some at
          → (position_from same (n + 1) xs ≡ Some at → (k : ℕ) × (at ≡ n + 1 + k) × (set xs k new ≡ put_by same new xs))
          → (k : ℕ) × (at ≡ n + k) × (set (x ∷ xs) k new ≡ cond b (new ∷ xs) (x ∷ put_by same new xs))
      go true is later = let here = same_Some n at is in (0, omega (arith, here), refl)
      go false is later = let k = later is in (suc k.0, omega (arith, k.1), ap (λ (ys : List A). x ∷ ys) k.2)

  none_from : (n : ℕ) (xs : List A) → position_from same n xs ≡ None → xs ++ new ∷ [] ≡ put_by same new xs
  none_from n [] e = refl
  none_from n (x ∷ xs) e = go (same x) e (none_from (n + 1) xs)
    where
      go : (b : Bool) → cond b (Some n) (position_from same (n + 1) xs) ≡ None
          → (position_from same (n + 1) xs ≡ None → xs ++ new ∷ [] ≡ put_by same new xs)
          → x ∷ (xs ++ new ∷ []) ≡ cond b (new ∷ xs) (x ∷ put_by same new xs)
      go true is later = absurd (none-some n (sym is))
      go false is later = ap (λ (ys : List A). x ∷ ys) (later is)

  -- where an item is the same, it is replaced
  pub put_there : (xs : List A) (at : ℕ) → position same xs ≡ Some at → set xs at new ≡ put_by same new xs
  put_there xs at e =
      let k = put_from 0 xs at (sym (position_from-zero same xs) ∙ e) in
      let here : at ≡ k.0 = omega (arith, k.1) in
      ap (λ (n : ℕ). set xs n new) here ∙ k.2

  -- where none is, it comes last
  pub put_last : (xs : List A) → position same xs ≡ None → xs ++ new ∷ [] ≡ put_by same new xs
  put_last xs e = none_from 0 xs (sym (position_from-zero same xs) ∙ e)
