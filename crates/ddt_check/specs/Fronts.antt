-- Numbers of 64 binary digits that decide most comparisons of prefixes and of names.
use Rattle.std.specs.Prelude.{ℕ, zero, suc, ◌+◌, ◌*◌, ◌/◌, ◌^◌, List, [], ◌∷◌}
use Rattle.ddt_path.specs.declared.locator.Locator.{Locator}
use Rattle.ddt_path.specs.declared.locator.Locator.TheVariants.{V4, V6}
use Rattle.ddt_path.specs.declared.form.Form.{Form}
use Rattle.ddt_path.specs.declared.form.Form.TheVariants.{Range, Block}
use Rattle.ddt_path.specs.FormOf.{form_of}

-- the family as 1 or 2, and the first 30 digits of the address
abbrev pub address_front : Locator → ℕ
address_front (V4 number) = 2 ^ 30 + number / 2 ^ 2
address_front (V6 number) = 2 ^ 31 + number / 2 ^ 98

-- the Instance ID, and of a block these behind it
abbrev pub form_front : Form → ℕ
form_front (Range iid len) = iid * 2 ^ 32
form_front (Block iid address len) = iid * 2 ^ 32 + address_front address

-- Of two prefixes with different fronts, the one of the lower front sorts first.
-- Prefixes of one front are compared in full.
abbrev pub prefix_front : List ℕ → ℕ
prefix_front path = form_front (form_of path)

-- the first bytes of a list as digits of base 256, zeros where it has fewer
abbrev pub bytes_front : ℕ → List ℕ → ℕ
bytes_front zero bytes = 0
bytes_front (suc n) [] = 0
bytes_front (suc n) (byte ∷ bytes) = byte * 256 ^ n + bytes_front n bytes

-- the first eight
abbrev pub name_front : List ℕ → ℕ
name_front name = bytes_front 8 name
