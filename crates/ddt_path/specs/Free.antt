-- The prefix of a delegation hole. RFC 8111, section 7.1.2, asks for the least specific one that no delegation
-- matches; here it is also kept inside the prefix of the authority that was asked.
use Rattle.std.specs.Prelude.{ℕ, Bool, ◌&&◌, not, nat_lt, if◌then◌else◌, List, [], ◌∷◌, ◌++◌, length, take, drop, find, unwrap_or, Option}
use Rattle.std.specs.List.{list_all}
use Rattle.ddt_path.specs.Covers.{covers, overlaps}

-- front, and front with one more digit of the rest after it, and so on up to all of it
abbrev pub lengthened : List ℕ → List ℕ → List (List ℕ)
lengthened front [] = front ∷ []
lengthened front (d ∷ rest) = front ∷ lengthened (front ++ d ∷ []) rest

-- the fronts of x, by length from n upwards up to all of it; none where x is shorter than n
abbrev pub parts_from : ℕ → List ℕ → List (List ℕ)
parts_from n x = if nat_lt (length x) n then [] else lengthened (take n x) (drop n x)

-- q overlaps no member of s
abbrev pub overlaps_none : List (List ℕ) → List ℕ → Bool
overlaps_none s q = list_all (λ p. not (overlaps p q)) s

-- The least specific free prefix: the first of these fronts, from the length of the authority on, that overlaps no
-- member of s. None where each overlaps one, which for a whole identifier and prefixes is where a member covers it, or
-- where the authority is longer than x. No authority is asked for an identifier that it doesn't cover: there the answer
-- may lie outside it.
abbrev pub free : List ℕ → List (List ℕ) → List ℕ → Option (List ℕ)
free authority s x = find (overlaps_none s) (parts_from (length authority) x)

-- The weak form: some prefix inside the authority that covers x and overlaps no member of s.
abbrev pub is_free : List ℕ → List (List ℕ) → List ℕ → List ℕ → Bool
is_free authority s x q = covers q x && (covers authority q && overlaps_none s q)

-- The prefix of the hole: the least specific free one. Where a member covers the identifier there is none, and this is
-- the identifier itself. An answer is a hole only where no member covers it, and so it is a free one.
abbrev pub hole_of : List ℕ → List (List ℕ) → List ℕ → List ℕ
hole_of authority s x = unwrap_or (free authority s x) x
