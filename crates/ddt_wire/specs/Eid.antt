-- An EID from its AFI on: an address alone, or an LCAF of type 2 with an Instance ID (RFC 8060, sections 3 and 4.1).
-- The mask length of its prefix stands elsewhere in the record.
use Rattle.std.specs.Prelude.{ℕ, ◌+◌, ◌^◌, ◌<◌, ◌≤◌, ◌≡◌, Bool, true, ◌==◌, ◌&&◌, ◌||◌, not, nat_lt, if◌then◌else◌, List, [], ◌∷◌, ◌++◌, length, drop, slice_index, Result, Ok, Err}
use Rattle.std.specs.Int.{w16, w32, to_be_bytes}
use Rattle.byteorder.specs.Endian.{big_number}
use Rattle.ddt_path.specs.declared.locator.Locator.{Locator}
use Rattle.ddt_path.specs.declared.form.Form.{Form}
use Rattle.ddt_path.specs.declared.form.Form.TheVariants.{Range, Block}
use Rattle.ddt_path.specs.declared.form.PrefixFault.{PrefixFault}
use Rattle.ddt_path.specs.declared.form.PrefixFault.TheVariants as prefix_fault
use Rattle.ddt_path.specs.Path.{digits, are_zero, address_width, path, prefix_of}
use Rattle.ddt_path.specs.FormOf.{form_of}
use Rattle.ddt_wire.specs.declared.address.AddressFault.{AddressFault}
use Rattle.ddt_wire.specs.declared.address.AddressFault.TheVariants as address_fault
use Rattle.ddt_wire.specs.declared.eid.EidFault.{EidFault}
use Rattle.ddt_wire.specs.declared.eid.EidFault.TheVariants.{Short, EidFamily, Lcaf, MaskLength, TailNotZero}
use Rattle.ddt_path.specs.Steps.{◌>>=◌, in_words}
use Rattle.ddt_wire.specs.Address.{no_address, ipv4, ipv6, lcaf, ipv4_len, ipv6_len, family_and_address, IsAddress, address_at}

-- ---- what spells a prefix

-- AFI 16387, two ignored bytes, type 2, the IID mask-len, the length of what follows it, and the Instance ID, before
-- what stands inside: an AFI and perhaps an address
abbrev pub instance_head : ℕ → ℕ → ℕ → ℕ → ℕ → List ℕ
instance_head reserved flags iid_mask iid inner_len =
    to_be_bytes w16 lcaf ++ (reserved ∷ flags ∷ 2 ∷ iid_mask ∷ []) ++ to_be_bytes w16 (4 + inner_len) ++ to_be_bytes
    w32 iid

-- a whole LCAF of type 2 with an Instance ID: its head, then an AFI and perhaps an address
abbrev pub instance_lcaf : ℕ → ℕ → ℕ → ℕ → List ℕ → List ℕ
instance_lcaf reserved flags iid_mask iid inner = instance_head reserved flags iid_mask iid (length inner) ++ inner

-- what stands in an LCAF of type 2 beside its address, all in the ranges of their fields
pub record IsInstance (reserved flags iid_mask iid : ℕ) : Type 0 where
  pub reserved_fits : reserved < 256
  pub flags_fits : flags < 256
  pub mask_fits : iid_mask < 256
  pub iid_fits : iid < 2 ^ 32

-- Beside an EID mask-len these bytes spell a prefix, of a path that is given. Address digits past the mask length, the
-- two first bytes of an LCAF, the IID mask-len of a block and the EID mask-len of a range are ignored.
pub data SpellsEid (mask : ℕ) (bytes p : List ℕ) : Type 0 where
  -- a block of instance 0, as its address alone
  Plain : (a : Locator) → IsAddress a → mask ≤ address_width a → bytes ≡ family_and_address a
      → p ≡ path (Block 0 a mask) → SpellsEid mask bytes p
  -- a block of any instance
  Inside : (reserved flags iid_mask iid : ℕ) (a : Locator) → IsInstance reserved flags iid_mask iid → IsAddress a
      → mask ≤ address_width a
      → bytes ≡ instance_lcaf reserved flags iid_mask iid (family_and_address a) → p ≡ path (Block iid a mask)
      → SpellsEid mask bytes p
  -- a range of instances, with AFI 0 in place of an address; the digits past its length are 0
  Instances : (reserved flags len iid : ℕ) → IsInstance reserved flags len iid → len ≤ 32
      → are_zero (drop len (digits 32 iid)) ≡ true
      → bytes ≡ instance_lcaf reserved flags len iid (to_be_bytes w16 no_address) → p ≡ path (Range iid len)
      → SpellsEid mask bytes p

-- ---- what is written

-- The one form that is written: a block of instance 0 as its address, a block of another instance with IID mask-len 0,
-- a range of instances with its length as IID mask-len and AFI 0 inside.
abbrev pub written_form : Form → List ℕ
written_form (Range iid len) = instance_lcaf 0 0 len iid (to_be_bytes w16 no_address)
written_form (Block iid address len) = if iid == 0 then family_and_address address else instance_lcaf 0 0 0 iid
    (family_and_address address)

-- the EID mask-len that is written: a block's length, 0 for a range
abbrev pub form_mask_len : Form → ℕ
form_mask_len (Range iid len) = 0
form_mask_len (Block iid address len) = len

-- the EID and the mask length that are written for a prefix, by its path
abbrev pub written_eid : List ℕ → List ℕ
written_eid p = written_form (form_of p)

-- of the prefix of a path: how many bits of its address count, or 0 where it is a range of instances
abbrev pub written_mask_len : List ℕ → ℕ
written_mask_len p = form_mask_len (form_of p)

-- ---- the first fault

-- a fault of an EID's address as one of the EID: it is cut, or its AFI is neither IPv4's nor IPv6's
abbrev pub from_address : AddressFault → EidFault
from_address address_fault.Short = Short
from_address address_fault.Family = EidFamily

-- a fault of a range of instances as one of the EID: its IID mask-len is over 32, or bits past it are set
abbrev pub from_prefix : PrefixFault → EidFault
from_prefix prefix_fault.Length = MaskLength
from_prefix prefix_fault.TailNotZero = TailNotZero

-- a block of an instance, from the AFI of its address on
unfoldable pub block_at : ℕ → ℕ → List ℕ → Result (List ℕ × ℕ) EidFault
block_at iid mask bytes =
    in_words from_address (address_at bytes) >>= λ a. if nat_lt (address_width a.0) mask then Err MaskLength
    else Ok (path (Block iid a.0 mask), a.1)

-- an LCAF whose type and length are right, with its Instance ID and the AFI inside it
unfoldable pub inside_at : ℕ → List ℕ → Result (List ℕ × ℕ) EidFault
inside_at mask bytes =
    if big_number 2 (drop 12 bytes) == no_address then
    (in_words from_prefix (prefix_of (Range (big_number 4 (drop 8 bytes)) (slice_index bytes 5))) >>= λ p.
    Ok (p, 14))
    else (block_at (big_number 4 (drop 8 bytes)) mask (drop 12 bytes) >>= λ b. Ok (b.0, 12 + b.1))

-- whether the length field fits the AFI inside, which is 0, 1 or 2
abbrev pub has_length : ℕ → ℕ → Bool
has_length inner len = (inner == no_address && len == 4 + 2) || ((inner == ipv4 && len == 4 + ipv4_len)
    || (inner == ipv6 && len == 4 + ipv6_len))

-- an LCAF from its AFI on
unfoldable pub lcaf_at : ℕ → List ℕ → Result (List ℕ × ℕ) EidFault
lcaf_at mask bytes =
    if nat_lt (length bytes) 8 then Err Short
    else if not (slice_index bytes 4 == 2) then Err Lcaf
    else if nat_lt (length bytes) 14 then Err Short
    else if not (has_length (big_number 2 (drop 12 bytes)) (big_number 2 (drop 6 bytes))) then Err Lcaf
    else inside_at mask bytes

-- The path of the prefix that stands at the front beside an EID mask-len, and how many bytes it takes; or the first
-- fault, from left to right. An LCAF's length is judged with the AFI inside it, and the mask length comes last.
unfoldable pub eid_at : ℕ → List ℕ → Result (List ℕ × ℕ) EidFault
eid_at mask bytes =
    if nat_lt (length bytes) 2 then Err Short
    else if big_number 2 bytes == lcaf then lcaf_at mask bytes
    else block_at 0 mask bytes

-- a fault in these words of a message
abbrev pub eid_words : {E : Type 0} → E → E → E → E → E → EidFault → E
eid_words short family lcaf mask tail Short = short
eid_words short family lcaf mask tail EidFamily = family
eid_words short family lcaf mask tail Lcaf = lcaf
eid_words short family lcaf mask tail MaskLength = mask
eid_words short family lcaf mask tail TailNotZero = tail
