-- What a text is read as: the value that it spells, or the first fault, examined from left to right; digits past the
-- length come last. Addresses are
-- those of RFC 4291, section 2.2, without a dotted part, and dotted IPv4; brackets and lengths are this project's own.
-- The bytes 42, 46, 47, 48, 91 and 93 are `*`, `.`, `/`, `0`, `[` and `]`.
use Rattle.std.specs.Prelude.{ℕ, Bool, false, ◌==◌, ◌&&◌, ◌||◌, not, nat_le, if◌then◌else◌, List, [], ◌∷◌, length, take, drop, Option, Some, None, option_map, Result, Ok, Err}
use Rattle.std.specs.List.{position_or_len, list_any, list_all}
use Rattle.std.specs.Int.{w32, w128, from_be_bytes}
use Rattle.std.specs.Char.{is_ascii_digit}
use Rattle.std.specs.Str.Parse.{digits_value}
use Rattle.std.specs.Net.Addr.{octets_of}
use Rattle.std.specs.Net.Reader.{read_ipv4, read_ipv6, whole_value}
use Rattle.ddt_path.specs.declared.locator.Locator.{Locator}
use Rattle.ddt_path.specs.declared.locator.Locator.TheVariants.{V4, V6}
use Rattle.ddt_path.specs.declared.xeid.Xeid.{Xeid}
use Rattle.ddt_path.specs.declared.form.Form.{Form}
use Rattle.ddt_path.specs.declared.form.Form.TheVariants.{Range, Block}
use Rattle.ddt_path.specs.declared.form.PrefixFault.{PrefixFault}
use Rattle.ddt_path.specs.declared.form.PrefixFault.TheVariants as prefix_fault
use Rattle.ddt_path.specs.Path.{prefix_of}
use Rattle.ddt_path.specs.Steps.{◌>>=◌}
use Rattle.ddt_text.specs.declared.fault.TextFault.{TextFault}
use Rattle.ddt_text.specs.declared.fault.TextFault.TheVariants.{Empty, Bracket, Instance, Address, Length, TailNotZero, Trailing}

-- at least one decimal digit, and a leading 0 only where it is the whole number
abbrev pub is_number : List ℕ → Bool
is_number [] = false
is_number (d ∷ ds) = list_all is_ascii_digit (d ∷ ds) && (not (d == 48) || length ds == 0)

-- the number of at most `most` that a text writes
abbrev pub number_in : ℕ → List ℕ → Option ℕ
number_in most text = if is_number text && nat_le (digits_value 10 text) most then Some (digits_value 10 text) else None

-- the address that a text spells: a dot stands in IPv4 alone
abbrev pub address_in : List ℕ → Option Locator
address_in text =
    if list_any (λ b. b == 46) text then option_map (λ octets. V4 (from_be_bytes w32 octets))
    (whole_value (read_ipv4 text))
    else option_map (λ groups. V6 (from_be_bytes w128 (octets_of groups))) (whole_value (read_ipv6 text))

-- what stands before the first such byte; the whole text where there is none
abbrev pub before : ℕ → List ℕ → List ℕ
before byte text = take (position_or_len (λ b. b == byte) text) text

-- The text from the first such byte on, that byte included; empty where there is none.
abbrev pub onward : ℕ → List ℕ → List ℕ
onward byte text = drop (position_or_len (λ b. b == byte) text) text

-- a value, or the fault of a part without one
abbrev pub value_or : {A : Type 0} → TextFault → Option A → Result A TextFault
value_or fault None = Err fault
value_or fault (Some a) = Ok a

-- What stands between `[` and the first `]`, and what follows it.
abbrev pub inner_or_bracket : List ℕ → List ℕ → Result (List ℕ × List ℕ) TextFault
inner_or_bracket inner [] = Err Bracket
inner_or_bracket inner (bracket ∷ rest) = Ok (inner, rest)

-- What stands in the brackets at the front of a text, and what follows them. Empty where the text is empty, Bracket
-- where it has no `[` at its front or no `]`.
abbrev pub brackets_in : List ℕ → Result (List ℕ × List ℕ) TextFault
brackets_in [] = Err Empty
brackets_in (first ∷ rest) = if first == 91 then inner_or_bracket (before 93 rest) (onward 93 rest) else Err Bracket

-- An Instance ID: a decimal number up to 4,294,967,295, without leading zeros. All else is the fault Instance.
abbrev pub iid_in : List ℕ → Result ℕ TextFault
iid_in text = value_or Instance (number_in 4294967295 text)

-- A locator: Empty, Address.
abbrev pub locator_in : List ℕ → Result Locator TextFault
locator_in [] = Err Empty
locator_in (first ∷ rest) = value_or Address (address_in (first ∷ rest))

-- The value that was read, where nothing is left of the text; whatever is left is the fault Trailing.
abbrev pub nothing_after : {A : Type 0} → A → List ℕ → Result A TextFault
nothing_after a [] = Ok a
nothing_after a (slash ∷ rest) = Err Trailing

-- An identifier, as `[7]10.1.2.3`: Empty, Bracket, Instance, Address, Trailing. The last is the fault of one with a `/`
-- behind its address.
abbrev pub xeid_in : List ℕ → Result Xeid TextFault
xeid_in text = do
  parts ← brackets_in text
  iid ← iid_in parts.0
  address ← value_or Address (address_in (before 47 parts.1))
  nothing_after (record { iid = iid; address = address }) (onward 47 parts.1)

-- The prefix that a form names.
abbrev pub prefix_or_fault : Result (List ℕ) PrefixFault → Result (List ℕ) TextFault
prefix_or_fault (Ok path) = Ok path
prefix_or_fault (Err prefix_fault.Length) = Err Length
prefix_or_fault (Err prefix_fault.TailNotZero) = Err TailNotZero

-- A range, behind its bracket: Address, Trailing, TailNotZero.
abbrev pub range_behind_star : Form → List ℕ → Result (List ℕ) TextFault
range_behind_star form [] = Err Address
range_behind_star form (star ∷ rest) =
    if not (star == 42) then Err Address
    else if not (length rest == 0) then Err Trailing
    else prefix_or_fault (prefix_of form)

-- A range: Instance, Length, then these.
abbrev pub range_in : List ℕ → List ℕ → List ℕ → Result (List ℕ) TextFault
range_in iid len rest = do
  iid ← iid_in iid
  len ← value_or Length (number_in 32 len)
  if len == 0 then Err Length else range_behind_star (Range iid len) rest

-- A block, behind its address: Length, TailNotZero.
abbrev pub block_behind_slash : (ℕ → Form) → List ℕ → Result (List ℕ) TextFault
block_behind_slash form [] = Err Length
block_behind_slash form (slash ∷ len) = do
  len ← value_or Length (number_in 128 len)
  prefix_or_fault (prefix_of (form len))

-- A block: Instance, Address, then these.
abbrev pub block_in : List ℕ → List ℕ → Result (List ℕ) TextFault
block_in iid rest = do
  iid ← iid_in iid
  address ← value_or Address (address_in (before 47 rest))
  block_behind_slash (Block iid address) (onward 47 rest)

-- A range where a `/` stands between the brackets, else a block.
abbrev pub range_or_block : List ℕ → List ℕ → List ℕ → Result (List ℕ) TextFault
range_or_block iid [] rest = block_in iid rest
range_or_block iid (slash ∷ len) rest = range_in iid len rest

-- A prefix other than `*`: a range, as `[16/28]*`, or a block, as `[0]10.0.0.0/8`.
abbrev pub bracketed_prefix_in : List ℕ → Result (List ℕ) TextFault
bracketed_prefix_in text = do
  parts ← brackets_in text
  range_or_block (before 47 parts.0) (onward 47 parts.0) parts.1

-- A prefix: Empty, Trailing behind a `*` at the front, Bracket, then these.
abbrev pub prefix_in : List ℕ → Result (List ℕ) TextFault
prefix_in [] = Err Empty
prefix_in (first ∷ rest) = if first == 42 then (if length rest == 0 then Ok [] else Err Trailing)
    else bracketed_prefix_in (first ∷ rest)
