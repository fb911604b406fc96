-- The blocks of the identifier space: the least specific prefixes that no prefix of a register divides.
use Rattle.std.specs.Prelude.{ℕ, zero, suc, Bool, true, false, ◌==◌, ◌&&◌, ◌||◌, not, nat_lt, if◌then◌else◌, List, [], ◌∷◌, ◌++◌, length, map, find, Option}
use Rattle.std.specs.List.{list_all}
use Rattle.ddt_path.specs.Covers.{is_strictly_below}
use Rattle.ddt_path.specs.Free.{parts_from}
use Rattle.ddt_register.specs.declared.register.Register.{Register}

-- the prefixes of all zones and sites
abbrev pub keys_of : Register → List (List ℕ)
keys_of r = map (λ z. z.prefix) r.zones ++ map (λ s. s.prefix) r.sites

-- no key is strictly below q
abbrev pub is_undivided : List (List ℕ) → List ℕ → Bool
is_undivided keys q = list_all (λ k. not (is_strictly_below k q)) keys

-- The block of an identifier inside a prefix that covers it: of its initial parts, by length from that of the prefix
-- on, the first that no key is strictly below.
abbrev pub block_inside : List ℕ → List (List ℕ) → List ℕ → Option (List ℕ)
block_inside inside keys x = find (is_undivided keys) (parts_from (length inside) x)

-- the block of an identifier, inside everything
abbrev pub block_of : List (List ℕ) → List ℕ → Option (List ℕ)
block_of keys x = block_inside [] keys x

-- where the two first differ, p has the lower digit: so neither covers the other, and all that p covers sorts before
-- all that q covers
abbrev pub stands_before : List ℕ → List ℕ → Bool
stands_before [] q = false
stands_before (d ∷ p) [] = false
stands_before (d ∷ p) (e ∷ q) = nat_lt d e || (d == e && stands_before p q)

-- each prefix of a list sorts before all that come after it
abbrev pub are_in_order : List (List ℕ) → Bool
are_in_order [] = true
are_in_order (p ∷ ps) = list_all (stands_before p) ps && are_in_order ps

-- the binary digit of the lower half, or of the upper one
abbrev pub bit : Bool → ℕ
bit false = 0
bit true = 1

-- The digit of the address family, which follows the 32 binary digits of the instance: 4 for IPv4, the lower half, and
-- 6 for IPv6, the upper one.
abbrev pub family_bit : Bool → ℕ
family_bit false = 4
family_bit true = 6

-- the digit that comes next in a half: the family behind n instance digits, a binary digit elsewhere
abbrev pub next_digit : ℕ → Bool → List ℕ → ℕ
next_digit n upper q = if length q == n then family_bit upper else bit upper

-- the lower half of a prefix, or the upper one
abbrev pub half : Bool → List ℕ → List ℕ
half upper q = q ++ next_digit 32 upper q ∷ []

-- the blocks inside a prefix, of at most so many digits more
unfoldable pub pieces : ℕ → List (List ℕ) → List ℕ → List (List ℕ)
pieces zero keys q = q ∷ []
pieces (suc n) keys q =
    if is_undivided keys q then q ∷ [] else pieces n keys (half false q) ++ pieces n keys (half true q)
