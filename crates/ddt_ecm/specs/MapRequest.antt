-- A Map-Request for one EID (RFC 9301, section 5.2).
use Rattle.std.specs.Prelude.{ℕ, ◌+◌, ◌-◌, ◌*◌, ◌/◌, ◌%◌, ◌^◌, ◌<◌, ◌≡◌, ◌==◌, ◌&&◌, Bool, false, not, nat_lt, if◌then◌else◌, List, [], ◌∷◌, ◌++◌, length, drop, slice_index, Result, Ok, Err}
use Rattle.std.specs.List.{flat_map}
use Rattle.std.specs.Int.{w16, w32, w64, to_be_bytes}
use Rattle.byteorder.specs.Endian.{big_number}
use Rattle.ddt_path.specs.declared.locator.Locator.{Locator}
use Rattle.ddt_path.specs.declared.xeid.Xeid.{Xeid}
use Rattle.ddt_path.specs.declared.form.Form.{Form}
use Rattle.ddt_path.specs.declared.form.Form.TheVariants.{Range, Block}
use Rattle.ddt_path.specs.Path.{address_width, xeid_path}
use Rattle.ddt_path.specs.FormOf.{form_of}
use Rattle.ddt_wire.specs.declared.address.AddressFault.{AddressFault}
use Rattle.ddt_wire.specs.declared.address.AddressFault.TheVariants as address_fault
use Rattle.ddt_wire.specs.declared.eid.EidFault.{EidFault}
use Rattle.ddt_wire.specs.declared.eid.EidFault.TheVariants as eid_fault
use Rattle.ddt_path.specs.Steps.{◌>>=◌, in_words, IsBytes}
use Rattle.ddt_wire.specs.Address.{no_address, lcaf, family_and_address, IsAddress, address_at}
use Rattle.ddt_wire.specs.MessageType.{map_request}
use Rattle.ddt_wire.specs.Addresses.{SpellsAddresses, addresses_at}
use Rattle.ddt_wire.specs.Eid.{SpellsEid, written_eid, eid_at}
use Rattle.ddt_wire.specs.Referral.{bit}
use Rattle.ddt_ecm.specs.EcmHeader.{first_byte, type_place}
use Rattle.ddt_ecm.specs.declared.fault.RequestFault.{RequestFault}
use Rattle.ddt_ecm.specs.declared.fault.RequestFault.TheVariants as fault

-- ---- what spells a Map-Request

-- what is ignored: the bit A, the 13 bits between the bit M and IRC, and the byte before the EID mask-len
pub record Ignored : Type 0 where
  pub authoritative : Bool
  pub flags : ℕ
  pub reserved : ℕ
  pub flags_fit : flags < 2 ^ 13
  pub reserved_fits : reserved < 256

-- the places of the bits M and A in the first byte
abbrev pub m_place : ℕ
m_place = 2 ^ 2

-- the bit A, for an authoritative answer, stands before M; it is ignored
abbrev pub a_place : ℕ
a_place = 2 * m_place

-- IRC is below this, for it has five bits; its place in the first word, and that of the ignored bits before it
abbrev pub irc_limit : ℕ
irc_limit = 2 ^ 5

-- IRC stands before the 8 bits of the record count, and is the number of ITR-RLOCs less 1
abbrev pub irc_place : ℕ
irc_place = 2 ^ 8

-- the 13 ignored bits stand between the bit M and IRC
abbrev pub flags_place : ℕ
flags_place = irc_limit * irc_place

-- type 1 in 4 bits, A, M, 6 flags, 5 reserved bits and 2 flags, IRC, and a record count of 1 in 8 bits
abbrev pub request_word : Ignored → Bool → ℕ → ℕ
request_word i with_map irc =
    (map_request * type_place + bit i.authoritative * a_place + bit with_map * m_place) * first_byte
    + (i.flags * flags_place + irc * irc_place + 1)

-- the first word and the nonce
abbrev pub request_fields : Ignored → Bool → ℕ → ℕ → List ℕ
request_fields i with_map irc nonce = to_be_bytes w32 (request_word i with_map irc) ++ to_be_bytes w64 nonce

-- the source EID, which is skipped: AFI 0 alone, an address, or an LCAF of any type, whose length counts what follows
-- it
pub data SpellsSource (bytes : List ℕ) : Type 0 where
  Absent : bytes ≡ to_be_bytes w16 no_address → SpellsSource bytes
  Plain : (a : Locator) → IsAddress a → bytes ≡ family_and_address a → SpellsSource bytes
  Lcaf : (reserved flags type more : ℕ) (content : List ℕ) → reserved < 256 → flags < 256 → type < 256 → more < 256
      → length content < 2 ^ 16 → IsBytes content
      → bytes ≡ to_be_bytes w16 lcaf ++ (reserved ∷ flags ∷ type ∷ more ∷ []) ++ to_be_bytes w16 (length content)
      ++ content → SpellsSource bytes

-- A Map-Request for one identifier. The EID mask-len is the whole width of its address. Bytes stand after the EID only
-- where the bit M is set, and are ignored.
pub record SpellsRequest (bytes : List ℕ) (nonce : ℕ) (x : Xeid) (rlocs : List Locator) : Type 0 where
  pub ignored : Ignored
  pub with_map : Bool
  pub irc : ℕ
  pub source : List ℕ
  pub itr_rlocs : List ℕ
  pub eid : List ℕ
  pub after : List ℕ
  pub nonce_fits : nonce < 2 ^ 64
  pub irc_fits : irc < irc_limit
  pub iid_fits : x.iid < 2 ^ 32
  pub address_fits : IsAddress x.address
  pub count : length rlocs ≡ irc + 1
  pub spells_source : SpellsSource source
  pub spells_rlocs : SpellsAddresses 0 itr_rlocs rlocs
  pub spells_eid : SpellsEid (address_width x.address) eid (xeid_path x)
  pub after_are_bytes : IsBytes after
  pub none_after : with_map ≡ false → after ≡ []
  pub whole : bytes ≡ request_fields ignored with_map irc nonce ++ source ++ itr_rlocs
      ++ (ignored.reserved ∷ address_width x.address ∷ []) ++ eid ++ after

-- ---- what is written

-- type 1 and no flag, IRC and one record, the nonce, and a source EID of AFI 0
abbrev pub map_request_head : ℕ → List Locator → List ℕ
map_request_head nonce rlocs =
    ((map_request * type_place) ∷ 0 ∷ (length rlocs - 1) ∷ 1 ∷ []) ++ to_be_bytes w64 nonce
    ++ to_be_bytes w16 no_address

-- the ITR-RLOCs, a reserved byte, the whole width as mask length, and the EID
abbrev pub written_map_request : ℕ → Xeid → List Locator → List ℕ
written_map_request nonce x rlocs =
    map_request_head nonce rlocs ++ flat_map family_and_address rlocs ++ (0 ∷ address_width x.address ∷ [])
    ++ written_eid (xeid_path x)

-- ---- the first fault

-- an LCAF of any type is skipped by its length
abbrev pub lcaf_at : List ℕ → Result ℕ RequestFault
lcaf_at bytes =
    if nat_lt (length bytes) 8 then Err fault.Short
    else if nat_lt (length bytes) (8 + big_number 2 (drop 6 bytes)) then Err fault.Short
    else Ok (8 + big_number 2 (drop 6 bytes))

-- a fault of the source EID's address as one of the request: it is cut, or its AFI is none of 0, 1, 2 and 16387, which
-- is told by EidFamily, the fault of the EID's own family
abbrev pub from_source : AddressFault → RequestFault
from_source address_fault.Short = fault.Short
from_source address_fault.Family = fault.EidFamily

-- the source EID is skipped: its AFI, and nothing, an LCAF, or an address
unfoldable pub source_at : List ℕ → Result ℕ RequestFault
source_at bytes =
    if nat_lt (length bytes) 2 then Err fault.Short
    else if big_number 2 bytes == no_address then Ok 2
    else if big_number 2 bytes == lcaf then lcaf_at bytes
    else (in_words from_source (address_at bytes) >>= λ a. Ok a.1)

-- a fault of an ITR-RLOC as one of the request: it is cut, or its AFI is neither IPv4's nor IPv6's
abbrev pub from_address : AddressFault → RequestFault
from_address address_fault.Short = fault.Short
from_address address_fault.Family = fault.RlocFamily

-- so many ITR-RLOCs from the front, and the bytes after them
abbrev pub rlocs_at : ℕ → List ℕ → Result (List Locator × List ℕ) RequestFault
rlocs_at n bytes = in_words from_address (addresses_at 0 n bytes)

-- a request is for one identifier: a mask length that is too long or a range's is refused like one that is too short
abbrev pub from_eid : EidFault → RequestFault
from_eid eid_fault.Short = fault.Short
from_eid eid_fault.EidFamily = fault.EidFamily
from_eid eid_fault.Lcaf = fault.Lcaf
from_eid other = fault.NotHost

-- the identifier that a prefix of the whole width of an address names; a shorter EID-prefix or a range of instances is
-- refused as NotHost
abbrev pub host_of : Form → Result Xeid RequestFault
host_of (Range iid_ len) = Err fault.NotHost
host_of (Block iid_ address_ len) = if len == address_width address_ then Ok (record { iid = iid_; address = address_ })
    else Err fault.NotHost

-- the identifier behind a reserved byte and its mask length, and how many bytes they take
unfoldable pub xeid_at : List ℕ → Result (Xeid × ℕ) RequestFault
xeid_at bytes =
    if nat_lt (length bytes) 2 then Err fault.Short
    else (in_words from_eid (eid_at (slice_index bytes 1) (drop 2 bytes)) >>= λ p. host_of (form_of p.0) >>= λ x.
    Ok (x, 2 + p.1))

-- the 12 bytes up to the nonce
unfoldable pub head_at : List ℕ → Result ℕ RequestFault
head_at message =
    if nat_lt (length message) 12 then Err fault.Short
    else if not (slice_index message 0 / type_place == map_request) then Err fault.RequestType
    else if not (slice_index message 3 == 1) then Err fault.RecordCount
    else Ok (slice_index message 2 % irc_limit + 1)

-- the bit M is clear, and bytes are left
abbrev pub trails : List ℕ → ℕ → List ℕ → Bool
trails message taken rest = slice_index message 0 / m_place % 2 == 0 && not (length rest == taken)

-- nonce, identifier and ITR-RLOCs
unfoldable pub map_request_at : List ℕ → Result (ℕ × Xeid × List Locator) RequestFault
map_request_at message = do
  count ← head_at message
  source ← source_at (drop 12 message)
  rlocs ← rlocs_at count (drop source (drop 12 message))
  xeid ← xeid_at rlocs.1
  if trails message xeid.1 rlocs.1 then Err fault.Trailing else Ok (big_number 8 (drop 4 message), xeid.0, rlocs.0)
