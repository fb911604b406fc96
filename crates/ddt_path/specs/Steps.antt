-- Reading in steps, of which the first fault decides; and lists of bytes.
use Rattle.std.specs.Prelude.{ℕ, ◌<◌, ◌≡◌, List, slice_index, Result, Ok, Err}

-- each number is one of 0 to 255
pub record IsBytes (bytes : List ℕ) : Type 0 where
  pub at : (i : ℕ) → slice_index bytes i < 256

-- a step, and what is done with its value
infixl 10 ◌>>=◌
abbrev pub ◌>>=◌ : {A B E : Type 0} → Result A E → (A → Result B E) → Result B E
(Ok x) >>= f = f x
(Err e) >>= f = Err e

-- the same step with its fault in other words
abbrev pub in_words : {A D E : Type 0} → (D → E) → Result A D → Result A E
in_words f (Ok x) = Ok x
in_words f (Err d) = Err (f d)

-- what a function returned, seen by view, is what reading gives
abbrev pub IsReadAs : {X Y E : Type 0} → (X → Y) → Result X E → Result Y E → Type 0
IsReadAs view (Ok x) read = read ≡ Ok (view x)
IsReadAs view (Err e) read = read ≡ Err e
