-- Lists with one item of each kind.
use Rattle.std.specs.Prelude.{Bool, if◌then◌else◌, List, [], ◌∷◌}

-- an item in the place of the first that is the same, or else at the end
abbrev pub put_by : {A : Type 0} → (A → Bool) → A → List A → List A
put_by same new [] = new ∷ []
put_by same new (old ∷ rest) = if same old then new ∷ rest else old ∷ put_by same new rest
