-- The header of an Encapsulated Control Message (RFC 9301, section 5.8; the bit D: RFC 8111, section 5).
use Rattle.std.specs.Prelude.{ℕ, ◌+◌, ◌*◌, ◌/◌, ◌%◌, ◌^◌, ◌==◌, Bool, not, nat_lt, if◌then◌else◌, List, length, drop, slice_index, Result, Ok, Err}
use Rattle.std.specs.Int.{w32, to_be_bytes}
use Rattle.ddt_wire.specs.MessageType.{encapsulated}
use Rattle.ddt_wire.specs.Referral.{bit}
use Rattle.ddt_ecm.specs.declared.fault.RequestFault.{RequestFault}
use Rattle.ddt_ecm.specs.declared.fault.RequestFault.TheVariants.{Short, MessageType, Security}

-- the places of the bits D and S in the first byte, and of the type before S
abbrev pub d_place : ℕ
d_place = 2 ^ 2

-- the bit S asks for LISP-SEC: a message with it set is refused
abbrev pub s_place : ℕ
s_place = 2 * d_place

-- the type is the first four bits of the byte, as in a Map-Request too
abbrev pub type_place : ℕ
type_place = 2 * s_place

-- the place of the first byte in the first word
abbrev pub first_byte : ℕ
first_byte = 2 ^ 24

-- type 8 in 4 bits, the bit S, which is 0, the bit D, and 26 ignored bits
abbrev pub ecm_word : Bool → ℕ → ℕ
ecm_word ddt ignored = (encapsulated * type_place + bit ddt * d_place) * first_byte + ignored

-- the word of the header as the four bytes in front of the inner IP header
abbrev pub ecm_fields : Bool → ℕ → List ℕ
ecm_fields ddt ignored = to_be_bytes w32 (ecm_word ddt ignored)

-- what is written: all ignored bits are 0
abbrev pub ecm_header : Bool → List ℕ
ecm_header ddt = ecm_fields ddt 0

-- the four bytes before the IP header
unfoldable pub ecm_at : List ℕ → Result (List ℕ) RequestFault
ecm_at bytes =
    if nat_lt (length bytes) 4 then Err Short
    else if not (slice_index bytes 0 / type_place == encapsulated) then Err MessageType
    else if not (slice_index bytes 0 / s_place % 2 == 0) then Err Security
    else Ok (drop 4 bytes)
