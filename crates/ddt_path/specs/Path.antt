-- The path of an XEID, and of a prefix: binary digits, most significant first. RFC 8111, section 4.1, puts the Instance
-- ID, the address family and the address in this order, after a Database-ID that is always 0 and left out here. The
-- family is one symbol, and the first digits of a path are a prefix.
use Rattle.std.specs.Prelude.{ℕ, zero, suc, ◌/◌, ◌%◌, ◌^◌, ◌<◌, ◌≤◌, ◌≡◌, Bool, true, false, ◌==◌, ◌&&◌, ◌||◌, nat_le, nat_lt, if◌then◌else◌, List, [], ◌∷◌, ◌++◌, length, take, drop, Result, Ok, Err}
use Rattle.std.specs.List.{list_all}
use Rattle.ddt_path.specs.declared.locator.Locator.{Locator}
use Rattle.ddt_path.specs.declared.locator.Locator.TheVariants.{V4, V6}
use Rattle.ddt_path.specs.declared.xeid.Xeid.{Xeid}
use Rattle.ddt_path.specs.declared.form.Form.{Form}
use Rattle.ddt_path.specs.declared.form.Form.TheVariants.{Range, Block}
use Rattle.ddt_path.specs.declared.form.PrefixFault.{PrefixFault}
use Rattle.ddt_path.specs.declared.form.PrefixFault.TheVariants.{Length, TailNotZero}

-- the lowest w binary digits of a number, most significant first
unfoldable pub digits : ℕ → ℕ → List ℕ
digits zero x = []
digits (suc w) x = (x / 2 ^ w % 2) ∷ digits w x

-- the family symbol that stands between the instance digits and the address digits
abbrev pub family : Locator → ℕ
family (V4 a) = 4
family (V6 a) = 6

-- how many digits an address of the locator's family has
abbrev pub address_width : Locator → ℕ
address_width (V4 a) = 32
address_width (V6 a) = 128

-- An address as one number, its first byte the most significant: 10.0.0.1 is 167772161.
abbrev pub address_number : Locator → ℕ
address_number (V4 a) = a
address_number (V6 a) = a

-- The binary digits of an address, most significant first: 32 of IPv4, 128 of IPv6.
abbrev pub address_digits : Locator → List ℕ
address_digits a = digits (address_width a) (address_number a)

-- the family symbol and the address digits
abbrev pub address_path : Locator → List ℕ
address_path a = family a ∷ address_digits a

-- 32 instance digits, the family symbol, the address digits
abbrev pub xeid_path : Xeid → List ℕ
xeid_path x = digits 32 x.iid ++ address_path x.address

-- the front of such a path that a form names
abbrev pub path : Form → List ℕ
path (Range iid len) = take len (digits 32 iid)
path (Block iid address len) = digits 32 iid ++ (family address ∷ take len (address_digits address))

-- Whether each digit is 0 or 1.
abbrev pub are_binary : List ℕ → Bool
are_binary ds = list_all (λ d. nat_lt d 2) ds

-- What follows the 32 digits of the Instance ID: the symbol 4 and 32 binary digits, or the symbol 6 and 128.
abbrev pub is_address_part : List ℕ → Bool
is_address_part [] = false
is_address_part (symbol ∷ ds) = are_binary ds && ((symbol == 4 && length ds == 32) || (symbol == 6 && length ds == 128))

-- Whether a list is the path of an XEID: 32 binary digits, the symbol 4 or 6, and 32 or 128 binary digits.
abbrev pub is_path : List ℕ → Bool
is_path ds = are_binary (take 32 ds) && is_address_part (drop 32 ds)

-- an identifier whose numbers fit their widths
abbrev pub IsInRange : Xeid → Type 0
IsInRange x = (x.iid < 2 ^ 32) × (address_number x.address < 2 ^ address_width x.address)

-- Whether a list is a front of what follows the Instance ID: nothing, or the symbol 4 and at most 32 binary digits, or
-- the symbol 6 and at most 128.
abbrev pub is_address_front : List ℕ → Bool
is_address_front [] = true
is_address_front (symbol ∷ ds) = are_binary ds
    && ((symbol == 4 && nat_le (length ds) 32) || (symbol == 6 && nat_le (length ds) 128))

-- Whether a list is the path of an XEID-prefix, which may end anywhere: that of the root, `*`, has no digits, and that
-- of a single XEID has all of them.
abbrev pub is_prefix_path : List ℕ → Bool
is_prefix_path ds = are_binary (take 32 ds) && is_address_front (drop 32 ds)

-- Whether each digit is 0: asked of the digits past the length of a prefix that is written.
abbrev pub are_zero : List ℕ → Bool
are_zero ds = list_all (λ d. d == 0) ds

-- The digits past the length: the rest of a range's Instance ID, or of a block's address.
abbrev pub form_tail : Form → List ℕ
form_tail (Range iid len) = drop len (digits 32 iid)
form_tail (Block iid address len) = drop len (address_digits address)

-- The greatest length that a form may have: 32 for a range of instances or of IPv4 addresses, 128 for IPv6.
abbrev pub form_width : Form → ℕ
form_width (Range iid len) = 32
form_width (Block iid address len) = address_width address

-- The length as it is written: it counts a range's digits of the Instance ID, or a block's digits of the address alone.
abbrev pub form_len : Form → ℕ
form_len (Range iid len) = len
form_len (Block iid address len) = len

-- The prefix that a form names: its length is at most the width, and all digits past its length are 0.
abbrev pub prefix_of : Form → Result (List ℕ) PrefixFault
prefix_of form = if nat_lt (form_width form) (form_len form) then Err Length else if are_zero (form_tail form)
    then Ok (path form) else Err TailNotZero

-- what such a form fulfils
abbrev pub IsForm : Form → Type 0
IsForm (Range iid len) = (iid < 2 ^ 32) × (len ≤ 32) × (are_zero (drop len (digits 32 iid)) ≡ true)
IsForm (Block iid address len) = (iid < 2 ^ 32) × (address_number address < 2 ^ address_width address)
    × (len ≤ address_width address) × (are_zero (drop len (address_digits address)) ≡ true)
