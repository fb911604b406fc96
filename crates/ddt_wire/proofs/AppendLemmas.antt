-- What stands at the end of a vector after several appends.
use Rattle.std.proofs.Common.{◌≡◌, ℕ, List, ◌++◌, Result, Ok, Err, cond, ap, ◌∙◌, append_assoc}
use Rattle.std.specs.Prelude.{OnOk, is_ok}

pub appended_after : {E : Type 0} (r : Result (Unit {0}) E) (old mid new x y : List ℕ) → mid ≡ old ++ x → new ≡ cond (is_ok r) (mid ++ y) mid → OnOk r (new ≡ old ++ (x ++ y))
appended_after (Ok _) old mid new x y p q = q ∙ ap (λ (t : List ℕ). t ++ y) p ∙ append_assoc old x y
appended_after (Err _) old mid new x y p q = tt

-- a part more, behind those that were appended
pub appended_more : (old mid new x y : List ℕ) → mid ≡ old ++ x → new ≡ mid ++ y → new ≡ old ++ (x ++ y)
appended_more old mid new x y p q = q ∙ ap (λ (t : List ℕ). t ++ y) p ∙ append_assoc old x y

-- three parts, one after the other
pub three_parts : (a b c : List ℕ) (x y z : List ℕ) → x ≡ a → y ≡ x ++ b → z ≡ y ++ c → z ≡ a ++ b ++ c
three_parts a b c x y z e f g = g ∙ ap (λ (t : List ℕ). t ++ c) (f ∙ ap (λ (t : List ℕ). t ++ b) e)
