-- The name of a server group: which bytes are a name, and when two names are one.
use Rattle.std.specs.Prelude.{ℕ, Bool, ◌==◌, ◌&&◌, ◌||◌, nat_le, List, length}
use Rattle.std.specs.List.{list_all}
use Rattle.std.specs.Cmp.Lexicographic.{pointwise}

-- a lower-case letter, a digit or a hyphen
abbrev pub is_name_byte : ℕ → Bool
is_name_byte b = (nat_le 97 b && nat_le b 122) || ((nat_le 48 b && nat_le b 57) || b == 45)

-- at least one of them and at most 63
abbrev pub is_name : List ℕ → Bool
is_name bytes = (nat_le 1 (length bytes) && nat_le (length bytes) 63) && list_all is_name_byte bytes

-- two names are one: byte for byte the same
abbrev pub is_same_name : List ℕ → List ℕ → Bool
is_same_name a b = pointwise ◌==◌ a b
