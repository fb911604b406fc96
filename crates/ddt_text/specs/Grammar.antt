-- Which texts spell which locator, identifier or prefix. A text is the list of its bytes. An IPv6 address has one of
-- the first two forms of RFC 4291, section 2.2.
use Rattle.std.specs.Prelude.{ℕ, ◌+◌, ◌-◌, ◌^◌, ◌<◌, ◌≡◌, ◌⊎◌, false, List, [], ◌++◌, length, replicate, codes, decimal, Ok}
use Rattle.std.specs.Int.{w32, w128, from_be_bytes}
use Rattle.std.specs.Net.Addr.{octets_of}
use Rattle.std.specs.Net.Grammar.{IsDotted, IsGroups}
use Rattle.ddt_path.specs.declared.locator.Locator.{Locator}
use Rattle.ddt_path.specs.declared.locator.Locator.TheVariants.{V4, V6}
use Rattle.ddt_path.specs.declared.xeid.Xeid.{Xeid}
use Rattle.ddt_path.specs.declared.form.Form.TheVariants.{Range, Block}
use Rattle.ddt_path.specs.Path.{prefix_of}

-- Nothing, or hexadecimal groups with a colon between two of them: each has up to four digits, in upper or lower case.
-- No IPv4 address stands among them.
abbrev pub IsHexGroups : List ℕ → List ℕ → Type 0
IsHexGroups text groups = IsGroups false text groups

-- Such groups before and after `::`, which stands for one zero group or more.
pub record IsShortened (text groups : List ℕ) : Type 0 where
  pub front_text : List ℕ
  pub back_text : List ℕ
  pub front : List ℕ
  pub back : List ℕ
  pub spelled : text ≡ front_text ++ codes "::" ++ back_text
  pub front_groups : IsHexGroups front_text front
  pub back_groups : IsHexGroups back_text back
  pub room : length front + length back < 8
  pub value : groups ≡ front ++ replicate (8 - length front - length back) 0 ++ back

-- all eight groups, or some of them around `::`
abbrev pub SpellsGroups : List ℕ → List ℕ → Type 0
SpellsGroups text groups = (IsHexGroups text groups × (length groups ≡ 8)) ⊎ IsShortened text groups

-- Four numbers of 0 to 255 without leading zeros, joined by dots; or IPv6.
abbrev pub SpellsLocator : List ℕ → Locator → Type 0
SpellsLocator text (V4 address) = (octets : List ℕ) × IsDotted text octets × (address ≡ from_be_bytes w32 octets)
SpellsLocator text (V6 address) = (groups : List ℕ) × SpellsGroups text groups
    × (address ≡ from_be_bytes w128 (octets_of groups))

-- `[iid]address`; `decimal n` has no leading zero
pub record SpellsXeid (text : List ℕ) (x : Xeid) : Type 0 where
  pub address_text : List ℕ
  pub spelled : text ≡ codes "[" ++ decimal x.iid ++ codes "]" ++ address_text
  pub fits : x.iid < 2 ^ 32
  pub address : SpellsLocator address_text x.address

-- `[iid/len]*`, of length 1 to 32
pub record SpellsRange (text path : List ℕ) : Type 0 where
  pub iid : ℕ
  pub len : ℕ
  pub spelled : text ≡ codes "[" ++ decimal iid ++ codes "/" ++ decimal len ++ codes "]*"
  pub fits : iid < 2 ^ 32
  pub some : 0 < len
  pub value : prefix_of (Range iid len) ≡ Ok path

-- `[iid]address/len`
pub record SpellsBlock (text path : List ℕ) : Type 0 where
  pub iid : ℕ
  pub address : Locator
  pub address_text : List ℕ
  pub len : ℕ
  pub spelled : text ≡ codes "[" ++ decimal iid ++ codes "]" ++ address_text ++ codes "/" ++ decimal len
  pub fits : iid < 2 ^ 32
  pub address_spelled : SpellsLocator address_text address
  pub value : prefix_of (Block iid address len) ≡ Ok path

-- `*`, or one of these two; a prefix is its path, whose length is at most the width, with no digit but 0 past it
abbrev pub SpellsPrefix : List ℕ → List ℕ → Type 0
SpellsPrefix text path = ((text ≡ codes "*") × (path ≡ [])) ⊎ (SpellsRange text path ⊎ SpellsBlock text path)
