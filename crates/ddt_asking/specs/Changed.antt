-- The questions about an identifier that a change of the register touches.
use Rattle.std.specs.Prelude.{ℕ, ◌≡◌, List, [], ◌∷◌, ◌++◌}
use Rattle.ddt_register.specs.declared.register.Register.{Register}
use Rattle.ddt_check.specs.Says.{says}
use Rattle.ddt_asking.specs.declared.question.Question.{Question}

-- By an earlier register the server of a question says the same: the record that is demanded now.
abbrev pub IsTheSame : Register → List ℕ → Question → Type 0
IsTheSame r x q = says r q.to x ≡ q.demanded

-- Of these questions those whose server said something else by an earlier register; each of them once, in their order,
-- and no others.
pub data AreChanged (r : Register) (x : List ℕ) : List Question → List Question → Type 0 where
  no_question : AreChanged r x [] []
  says_the_same : (all changed : List Question) (q : Question) → AreChanged r x all changed → IsTheSame r x q
      → AreChanged r x (all ++ q ∷ []) changed
  said_another : (all changed : List Question) (q : Question) → AreChanged r x all changed → (IsTheSame r x q → ⊥)
      → AreChanged r x (all ++ q ∷ []) (changed ++ q ∷ [])
