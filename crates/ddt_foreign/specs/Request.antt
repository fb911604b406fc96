-- A foreign Map-Request inside an Encapsulated Control Message (RFC 9301, sections 5.2 and 5.8), as far as it says what
-- is looked up and for whom: the EID-prefix of its first record, of which the first address is looked up, and the
-- ITR-RLOCs whose address is known. What follows the first record, as more records or an xTR-ID, is ignored.
use Rattle.std.specs.Prelude.{ℕ, ◌+◌, ◌/◌, ◌%◌, ◌==◌, ◌≡◌, Bool, nat_lt, not, if◌then◌else◌, List, [], ◌∷◌, length, take, drop, slice_index, slice_get, Option, Some, None, Result, Ok, Err}
use Rattle.byteorder.specs.Endian.{big_number}
use Rattle.ddt_path.specs.declared.form.Form.{Form}
use Rattle.ddt_path.specs.declared.form.Form.TheVariants.{Range, Block}
use Rattle.ddt_path.specs.declared.locator.Locator.{Locator}
use Rattle.ddt_path.specs.declared.xeid.Xeid.{Xeid}
use Rattle.ddt_path.specs.FormOf.{form_of}
use Rattle.ddt_path.specs.Steps.{◌>>=◌, in_words}
use Rattle.ddt_wire.specs.declared.address.AddressFault.{AddressFault}
use Rattle.ddt_wire.specs.declared.address.AddressFault.TheVariants as address_fault
use Rattle.ddt_wire.specs.declared.eid.EidFault.{EidFault}
use Rattle.ddt_wire.specs.declared.eid.EidFault.TheVariants as eid_fault
use Rattle.ddt_wire.specs.Address.{no_address, lcaf, address_at}
use Rattle.ddt_wire.specs.Eid.{eid_words, eid_at}
use Rattle.ddt_wire.specs.MessageType.{map_request}
use Rattle.ddt_ecm.specs.EcmHeader.{type_place, d_place}
use Rattle.ddt_ecm.specs.MapRequest.{irc_limit}
use Rattle.ddt_ecm.specs.Request.{inner_in}
use Rattle.ddt_foreign.specs.declared.fault.ForeignRequestFault.{ForeignRequestFault}
use Rattle.ddt_foreign.specs.declared.fault.ForeignRequestFault.TheVariants.{Headers, Short, RequestType, NoEid, UnrecognizedAfi, Lcaf, MaskLength, ManyInstances, NoRloc}
use Rattle.ddt_foreign.specs.Several.{several_at, several_in}
use Rattle.ddt_foreign.specs.Entry.{security_key, owner_in, address_or_none}

-- what a request says
pub record Asked : Type 0 where
  pub nonce : ℕ
  -- the bit D of the Encapsulated Control Message: a DDT client asks
  pub ddt : Bool
  -- the inner source port
  pub port : ℕ
  -- the bit P: the request is a probe of an RLOC
  pub probe : Bool
  -- the bit D of the Map-Request is clear: a Map-Reply is wanted
  pub reply : Bool
  -- the EID-prefix as a path
  pub prefix : List ℕ
  -- its first address, which is looked up
  pub xeid : Xeid
  -- the ITR-RLOCs whose address is known
  pub rlocs : List Locator

-- ---- the source EID

-- a fault of a source EID's or an ITR-RLOC's address as one of the request
abbrev pub from_rloc : AddressFault → ForeignRequestFault
from_rloc address_fault.Short = Short
from_rloc address_fault.Family = UnrecognizedAfi

-- what is in an LCAF of any type, as its length says, and the bytes after it
unfoldable pub content_at : List ℕ → Result (List ℕ × List ℕ) ForeignRequestFault
content_at bytes =
    if nat_lt (length bytes) 8 then Err Short
    else if nat_lt (length bytes) (8 + big_number 2 (drop 6 bytes)) then Err Short
    else Ok (take (big_number 2 (drop 6 bytes)) (drop 8 bytes), drop (8 + big_number 2 (drop 6 bytes)) bytes)

-- the bytes after the source EID, which is skipped: AFI 0 alone, an LCAF of any type, or an address
unfoldable pub after_source : List ℕ → Result (List ℕ) ForeignRequestFault
after_source bytes =
    if nat_lt (length bytes) 2 then Err Short
    else if big_number 2 bytes == no_address then Ok (drop 2 bytes)
    else if big_number 2 bytes == lcaf then (content_at bytes >>= λ x. Ok x.1)
    else (in_words from_rloc (address_at bytes) >>= λ a. Ok (drop a.1 bytes))

-- ---- the ITR-RLOCs

-- the type of an LCAF with an Instance ID before an address (RFC 8060, section 4.1)
abbrev pub instance_id : ℕ
instance_id = 2

-- the address after the four bytes of an Instance ID
abbrev pub after_instance : List ℕ → Option Locator
after_instance inner = if nat_lt (length inner) 4 then None else address_or_none (address_at (drop 4 inner))

-- the address in an LCAF of this type with this content
abbrev pub rloc_inside : ℕ → List ℕ → Option Locator
rloc_inside type inner =
    if type == security_key then owner_in inner else if type == instance_id then after_instance inner else None

-- an ITR-RLOC, whose address may be unknown, and the bytes after it
unfoldable pub rloc_at : List ℕ → Result (Option Locator × List ℕ) ForeignRequestFault
rloc_at bytes =
    if nat_lt (length bytes) 2 then Err Short
    else if big_number 2 bytes == lcaf then (content_at bytes >>= λ x.
    Ok (rloc_inside (slice_index bytes 4) x.0, x.1))
    else if big_number 2 bytes == no_address then Ok (None, drop 2 bytes)
    else (in_words from_rloc (address_at bytes) >>= λ a. Ok (Some a.0, drop a.1 bytes))

-- the addresses that are known
abbrev pub known : List (Option Locator) → List Locator
known [] = []
known (Some a ∷ others) = a ∷ known others
known (None ∷ others) = known others

-- the known addresses of bytes that have so many ITR-RLOCs
abbrev pub known_in : ℕ → List ℕ → List Locator
known_in n bytes = known (several_in rloc_at n bytes)

-- so many ITR-RLOCs, of which the known addresses are given, and the bytes after them
unfoldable pub rlocs_at : ℕ → List ℕ → Result (List Locator × List ℕ) ForeignRequestFault
rlocs_at n bytes = several_at rloc_at n bytes >>= λ x. Ok (known x.0, x.1)

-- ---- the EID-prefix

-- the fault of an EID whose AFI isn't that of an address or an LCAF: of AFI 0 there is no EID
abbrev pub family_fault : ℕ → ForeignRequestFault
family_fault afi = if afi == no_address then NoEid else UnrecognizedAfi

-- a fault of an EID with this AFI as one of the request
abbrev pub from_eid : ℕ → EidFault → ForeignRequestFault
from_eid afi = eid_words Short (family_fault afi) Lcaf MaskLength ManyInstances

-- the EID-prefix after a reserved byte and its mask length
unfoldable pub prefix_at : List ℕ → Result (List ℕ) ForeignRequestFault
prefix_at bytes =
    if nat_lt (length bytes) 4 then Err Short
    else (in_words (from_eid (big_number 2 (drop 2 bytes))) (eid_at (slice_index bytes 1) (drop 2 bytes)) >>= λ p.
    Ok p.0)

-- the first address of a block; a range of instances is refused
abbrev pub first_of : Form → Result Xeid ForeignRequestFault
first_of (Range iid len) = Err ManyInstances
first_of (Block iid_ address_ len) = Ok (record { iid = iid_; address = address_ })

-- ---- the whole

-- how many ITR-RLOCs there are, after the 12 bytes up to the nonce; further records than the first are ignored
unfoldable pub count_at : List ℕ → Result ℕ ForeignRequestFault
count_at message =
    if nat_lt (length message) 12 then Err Short
    else if not (slice_index message 0 / type_place == map_request) then Err RequestType
    else if slice_index message 3 == 0 then Err NoEid
    else Ok (slice_index message 2 % irc_limit + 1)

-- the bits P and D of a Map-Request: it is a probe, and no Map-Reply is wanted
abbrev pub has_probe : List ℕ → Bool
has_probe message = slice_index message 0 / 2 % 2 == 1

abbrev pub wants_none : List ℕ → Bool
wants_none message = slice_index message 2 / irc_limit % 2 == 1

-- the request without its ITR-RLOCs
abbrev pub asked_of : Bool → ℕ → List ℕ → List ℕ → Xeid → List Locator → Asked
asked_of ddt_ port_ message p x ls = record {
  nonce = big_number 8 (drop 4 message);
  ddt = ddt_;
  port = port_;
  probe = has_probe message;
  reply = not (wants_none message);
  prefix = p;
  xeid = x;
  rlocs = ls;
}

-- a request has a known ITR-RLOC
abbrev pub if_known : Asked → List Locator → Result Asked ForeignRequestFault
if_known v [] = Err NoRloc
if_known v (a ∷ others) = Ok v

-- What a Map-Request with this bit D and inner source port asks, or the first fault, of which the want of a known
-- ITR-RLOC comes last.
unfoldable pub asked_in : Bool → ℕ → List ℕ → Result Asked ForeignRequestFault
asked_in ddt_ port_ message = do
  count ← count_at message
  from_rlocs ← after_source (drop 12 message)
  rlocs_ ← rlocs_at count from_rlocs
  prefix_ ← prefix_at rlocs_.1
  x ← first_of (form_of prefix_)
  if_known (asked_of ddt_ port_ message prefix_ x rlocs_.0) rlocs_.0

-- what a datagram asks, or the first fault, of which those of its headers come first
unfoldable pub request_in : List ℕ → Result Asked ForeignRequestFault
request_in bytes = do
  inner ← in_words Headers (inner_in bytes)
  asked_in (slice_index bytes 0 / d_place % 2 == 1) inner.0 inner.1
