-- What is so of the register that a path opens.
use Rattle.std.proofs.Common.{◌≡◌, ℕ, List, Option, None}
use Rattle.ddt_register.specs.declared.register.Register.{Register}
use Rattle.ddt_check.specs.Rules.{IsAccepted}
use Rattle.ddt_commands.specs.Over.{OfItsRegister}
use Rattle.ddt_commands.specs.Register.{Spell, HasBytes}

-- of the register of a source that was opened
pub of_register : {F : Type 0} (remaining : F → Option (List ℕ)) (source : Option F) (is_so : Register → Type 0) (r : Register) → (source ≡ None → ⊥)
    → IsAccepted r → ((bytes : List ℕ) → HasBytes remaining source bytes → Spell bytes r) → is_so r → OfItsRegister remaining source is_so
of_register remaining source is_so r closed accepted spelled so = (closed, (r, accepted, spelled, so))
