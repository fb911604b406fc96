-- The command that a parse met, and the values of its arguments.
use Rattle.std.proofs.Common.{◌≡◌, ℕ, List, Option, Some, None, refl, rules}
use Rattle.std.specs.Prelude.{option_map, unwrap_or}
use Rattle.std.specs.Borrow.{Bor}

-- two facts of one thing that may be missing
pub paired : {X A B : Type 0} (f : X → A) (g : X → B) (o : Option X) (a : A) (b : B) → Some a ≡ option_map f o
    → Some b ≡ option_map (λ (p : A × B). p.1) (option_map {U = A × B} (λ x. (f x, g x)) o) → option_map {U = A × B} (λ x. (f x, g x)) o ≡ Some (a, b)
paired f g None a b e h = search (rules, e)
paired f g (Some x) a b e h = cc

-- a text, or another in its place
pub text_or : (o : Option (Bor (List ℕ))) (d : Bor (List ℕ)) → (unwrap_or o d).now ≡ unwrap_or (option_map (λ (s : Bor (List ℕ)). s.now) o) d.now
text_or None d = refl
text_or (Some s) d = refl
