-- A pattern for something that doesn't match: there is nothing.
use Rattle.std.proofs.Common.{◌≡◌, Option, Some, None, refl}

pub is_none : {A : Type 0} (o : Option A) → ((v : A) → o ≡ Some v → ⊥) → o ≡ None
is_none None not = refl
is_none (Some v) not = absurd (not v refl)
