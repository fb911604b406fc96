-- How two paths stand to each other: the more specific one begins with the less specific one.
use Rattle.std.specs.Prelude.{ℕ, ◌+◌, Bool, true, false, ◌==◌, ◌&&◌, ◌||◌, not, if◌then◌else◌, List, [], ◌∷◌}
use Rattle.std.specs.Cmp.Lexicographic.{pointwise}

-- q begins with all of p; a path covers itself
abbrev pub covers : List ℕ → List ℕ → Bool
covers [] q = true
covers (d ∷ p) [] = false
covers (d ∷ p) (e ∷ q) = d == e && covers p q

-- one of the two begins with the other
abbrev pub overlaps : List ℕ → List ℕ → Bool
overlaps p q = covers p q || covers q p

-- two paths are one: digit for digit the same
abbrev pub is_same_path : List ℕ → List ℕ → Bool
is_same_path p q = pointwise ◌==◌ p q

-- p begins with q and goes on
abbrev pub is_strictly_below : List ℕ → List ℕ → Bool
is_strictly_below p q = covers q p && not (covers p q)

-- how many digits two paths share from their fronts
abbrev pub shared_len : List ℕ → List ℕ → ℕ
shared_len [] q = 0
shared_len (d ∷ p) [] = 0
shared_len (d ∷ p) (e ∷ q) = if d == e then 1 + shared_len p q else 0
