-- The form that a path names: what is kept of a prefix can be read off its digits.
use Rattle.std.specs.Prelude.{ℕ, ◌-◌, ◌==◌, nat_le, if◌then◌else◌, List, [], ◌∷◌, ◌++◌, length, take, drop, replicate}
use Rattle.std.specs.Int.Digits.{number_from_digits}
use Rattle.ddt_path.specs.declared.locator.Locator.TheVariants.{V4, V6}
use Rattle.ddt_path.specs.declared.form.Form.{Form}
use Rattle.ddt_path.specs.declared.form.Form.TheVariants.{Range, Block}

-- the number whose first digits, of w, are given
abbrev pub padded_number : ℕ → List ℕ → ℕ
padded_number w ds = number_from_digits 2 (ds ++ replicate (w - length ds) 0)

-- The block whose instance and path behind the Instance ID are given: IPv4 behind the symbol 4, else IPv6.
-- Where nothing follows the Instance ID, it is all addresses of the instance, as `[7/32]*`.
abbrev pub block_of : ℕ → List ℕ → Form
block_of iid [] = Range iid 32
block_of iid (symbol ∷ ds) = if symbol == 4 then Block iid (V4 (padded_number 32 ds)) (length ds)
    else Block iid (V6 (padded_number 128 ds)) (length ds)

-- At most 32 digits are a range of instances; without any it is the root, `*`. A longer path is a block.
abbrev pub form_of : List ℕ → Form
form_of ds = if nat_le (length ds) 32 then Range (padded_number 32 ds) (length ds)
    else block_of (padded_number 32 (take 32 ds)) (drop 32 ds)
