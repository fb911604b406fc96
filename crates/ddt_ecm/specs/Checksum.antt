-- The Internet checksum (RFC 1071): sums of 16-bit words in one's complement.
use Rattle.std.specs.Prelude.{ℕ, ◌+◌, ◌-◌, ◌*◌, ◌==◌, Bool, nat_lt, if◌then◌else◌, List, [], ◌∷◌}

-- a carry out of the highest bit is added at the lowest
abbrev pub ones_add : ℕ → ℕ → ℕ
ones_add a b = if nat_lt (a + b) 65536 then a + b else a + b - 65535

-- a sum, and the words of the bytes, of which an odd last one has a zero byte behind it
abbrev pub ones_sum : ℕ → List ℕ → ℕ
ones_sum sum [] = sum
ones_sum sum (a ∷ []) = ones_add sum (a * 256)
ones_sum sum (a ∷ b ∷ rest) = ones_sum (ones_add sum (a * 256 + b)) rest

-- A sum over bytes that have their checksum in place is right where all its bits are 1.
abbrev pub is_right : ℕ → Bool
is_right sum = sum == 65535

-- the checksum of bytes with this sum, where 0 stands in its place
abbrev pub complement : ℕ → ℕ
complement sum = 65535 - sum
