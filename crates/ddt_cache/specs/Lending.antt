-- What a value is once what was lent of it is given back.
use Rattle.std.specs.Prelude.{◌≡◌, ⊤}
use Rattle.std.specs.Borrow.{follows_so, Fml, RattleType, MutBor}
use mathlib.Core.Option.{none}

-- a value of which only shared borrows were lent ends as this one
abbrev pub EndsAs : (R : RattleType) → MutBor R.Denot → R.Denot → Fml
EndsAs R s value = follows_so R R s.ghost_name none (λ _ _. ⊤) (λ v. v ≡ value)
