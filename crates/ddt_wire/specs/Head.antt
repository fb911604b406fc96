-- The head that a Map-Referral and a Map-Reply of one record have in common, up to the EID (RFC 8111, section 6.4; RFC
-- 9301, section 5.4). Its fields are those of `Head`.
use Rattle.std.specs.Prelude.{ℕ, ◌+◌, ◌*◌, ◌/◌, ◌^◌, ◌<◌, ◌==◌, not, nat_lt, if◌then◌else◌, List, [], ◌∷◌, ◌++◌, length, drop, slice_index, Result, Ok, Err}
use Rattle.std.specs.Int.{w16, w32, w64, to_be_bytes}
use Rattle.byteorder.specs.Endian.{big_number}
use Rattle.ddt_wire.specs.declared.head.Head.{Head}
use Rattle.ddt_wire.specs.declared.head.HeadFault.{HeadFault}
use Rattle.ddt_wire.specs.declared.head.HeadFault.TheVariants.{Short, MessageType, RecordCount}

-- the type in 4 bits, 20 ignored bits and a record count of 1 in 8 bits; the nonce; TTL, locator count, EID mask-len;
-- ACT in 3 bits and 13 more; 4 bits and the map version in 12
abbrev pub head_bytes : ℕ → ℕ → Head → List ℕ
head_bytes type ignored h =
    to_be_bytes w32 (type * 2 ^ 28 + (ignored * 2 ^ 8 + 1)) ++ to_be_bytes w64 h.nonce ++ to_be_bytes w32 h.ttl
    ++ (h.locators ∷ h.mask_len ∷ []) ++ to_be_bytes w16 h.flags ++ to_be_bytes w16 h.version

-- each field lies in the range of its bits
pub record IsHead (h : Head) : Type 0 where
  pub nonce_fits : h.nonce < 2 ^ 64
  pub ttl_fits : h.ttl < 2 ^ 32
  pub locators_fit : h.locators < 256
  pub mask_fits : h.mask_len < 256
  pub flags_fit : h.flags < 2 ^ 16
  pub version_fits : h.version < 2 ^ 16

-- the place of ACT in the flags
abbrev pub act_place : ℕ
act_place = 2 ^ 13

-- the code in ACT, 0 to 7: the first three of the 16 bits of flags
abbrev pub action_number : Head → ℕ
action_number h = h.flags / act_place

-- ---- the first fault

-- the fields at their places
abbrev pub head_of : List ℕ → Head
head_of bytes =
    record {
      nonce = big_number 8 (drop 4 bytes);
      ttl = big_number 4 (drop 12 bytes);
      locators = slice_index bytes 16;
      mask_len = slice_index bytes 17;
      flags = big_number 2 (drop 18 bytes);
      version = big_number 2 (drop 20 bytes);
    }

-- a fault in these words of a message
abbrev pub head_words : {E : Type 0} → E → E → E → HeadFault → E
head_words short type count Short = short
head_words short type count MessageType = type
head_words short type count RecordCount = count

-- The head of a message of this type, up to the EID's AFI, which isn't cut; or the first fault.
unfoldable pub head_at : ℕ → List ℕ → Result Head HeadFault
head_at type bytes =
    if nat_lt (length bytes) 4 then Err Short
    else if not (slice_index bytes 0 / 16 == type) then Err MessageType
    else if not (slice_index bytes 3 == 1) then Err RecordCount
    else if nat_lt (length bytes) 24 then Err Short
    else Ok (head_of bytes)
