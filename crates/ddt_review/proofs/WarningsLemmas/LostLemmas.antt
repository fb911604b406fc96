-- How many items pass, by another test that answers alike.
use Rattle.std.proofs.Common.{◌≡◌, ℕ, Bool, ◌+◌, cond, List, [], ◌∷◌, refl, sym, ap, ◌∙◌}
use Rattle.std.specs.List.{count_by}
use Rattle.std.proofs.lemmas.List.Sums.{sum_by-cons}

pub counts_alike : {A : Type 0} (f g : A → Bool) → ((a : A) → f a ≡ g a) → (xs : List A) → count_by f xs ≡ count_by g xs
counts_alike f g alike [] = refl
counts_alike f g alike (x ∷ xs) =
    sum_by-cons (λ y. cond (f y) 1 0) x xs
    ∙ ap (λ (b : Bool). cond b 1 0 + count_by f xs) (alike x)
    ∙ ap (λ (n : ℕ). cond (g x) 1 0 + n) (counts_alike f g alike xs)
    ∙ sym (sum_by-cons (λ y. cond (g y) 1 0) x xs)
