-- The laws of a reading, from the first two of them and that only bytes spell.
use Rattle.std.proofs.Common.{◌≡◌, ℕ, List, Result, Ok, Err, sym, ◌∙◌}
use Rattle.std.specs.Prelude.{IfOk}
use Rattle.ddt_path.specs.Steps.{IsBytes}
use Rattle.ddt_path.specs.Reader.{AreRead}
use Rattle.ddt_path.specs.laws.Step.{ok_is, err_not_ok, err_unless}

module _ {A E : Type 0} {Fits : List ℕ → Type 0} {Spells : List ℕ → A → Type 0} {reading : List ℕ → Result A E} where
  pub are_read : ((text : List ℕ) (a : A) → Spells text a → reading text ≡ Ok a) → ((text : List ℕ) (a : A) → Fits text → reading text ≡ Ok a → Spells text a) → ((text : List ℕ) (a : A) → Spells text a → IsBytes text) → AreRead Fits Spells reading
  are_read again takes are_bytes = record {
    read = again;
    taken = takes;
    one = λ text a b s t. ok_is {E = E} a b (sym (again text a s) ∙ again text b t);
    bytes = are_bytes;
    faults = λ text fits. (λ e a s. err_not_ok (reading text) a e (again text a s), λ n. err_unless (reading text) (λ a e. n a (takes text a fits e)));
  }

  -- what a function that answers the reading has read
  pub found : AreRead Fits Spells reading → (text : List ℕ) (r : Result A E) → Fits text → r ≡ reading text → IfOk r (Spells text)
  found laws text (Ok a) fits e = laws.taken text a fits (sym e)
  found laws text (Err d) fits e = tt
