-- A locator of a foreign record (RFC 8111, section 6.4): its priority, and its address after its AFI. In an LCAF of
-- type 11 the address comes after keys; any other LCAF (RFC 8060, section 3) is passed over by its length.
use Rattle.std.specs.Prelude.{ℕ, ◌+◌, ◌==◌, nat_lt, if◌then◌else◌, List, length, take, drop, slice_index, Option, Some, None, Result, Ok, Err}
use Rattle.byteorder.specs.Endian.{big_number}
use Rattle.ddt_path.specs.declared.locator.Locator.{Locator}
use Rattle.ddt_path.specs.Steps.{◌>>=◌, in_words}
use Rattle.ddt_wire.specs.declared.address.AddressFault.{AddressFault}
use Rattle.ddt_wire.specs.declared.address.AddressFault.TheVariants as address_fault
use Rattle.ddt_wire.specs.Address.{no_address, lcaf, address_at}
use Rattle.ddt_foreign.specs.declared.entry.Entry.{Entry}
use Rattle.ddt_foreign.specs.declared.fault.ForeignFault.{ForeignFault}
use Rattle.ddt_foreign.specs.declared.fault.ForeignFault.TheVariants.{Short, UnrecognizedAfi}
use Rattle.ddt_foreign.specs.Sections.{sections_at, key_head}

-- a fault of a locator's address as one of the Map-Referral
abbrev pub from_address : AddressFault → ForeignFault
from_address address_fault.Short = Short
from_address address_fault.Family = UnrecognizedAfi

-- the type of an LCAF that holds keys and the address that owns them
abbrev pub security_key : ℕ
security_key = 11

-- the address that was read, if any
abbrev pub address_or_none : Result (Locator × ℕ) AddressFault → Option Locator
address_or_none (Ok x) = Some x.0
address_or_none (Err e) = None

-- the address at the front of what comes after the keys
abbrev pub after_keys : Result (List ℕ) ForeignFault → Option Locator
after_keys (Ok rest) = address_or_none (address_at rest)
after_keys (Err e) = None

-- The address inside an LCAF of type 11: key count, a reserved byte, the algorithm, a byte with R; so many keys; an
-- address. None where it isn't of this form.
unfoldable pub owner_in : List ℕ → Option Locator
owner_in inner =
    if nat_lt (length inner) 4 then None
    else after_keys (sections_at key_head 0 (slice_index inner 0) (drop 4 inner))

-- the address in an LCAF of this type with this content
abbrev pub inner_address : ℕ → List ℕ → Option Locator
inner_address type inner = if type == security_key then owner_in inner else None

-- a locator with this address
abbrev pub entry_of : List ℕ → Option Locator → Entry
entry_of bytes a = record { priority = slice_index bytes 0; address = a }

-- a locator with an LCAF, which may be cut in its head or after it
unfoldable pub lcaf_at : List ℕ → Result (Entry × List ℕ) ForeignFault
lcaf_at bytes =
    if nat_lt (length bytes) 14 then Err Short
    else if nat_lt (length bytes) (14 + big_number 2 (drop 12 bytes)) then Err Short
    else Ok (
      entry_of bytes
          (inner_address (slice_index bytes 10) (take (big_number 2 (drop 12 bytes)) (drop 14 bytes))),
      drop (14 + big_number 2 (drop 12 bytes)) bytes,
    )

-- The locator at the front and the bytes after it, or the first fault: it is cut before its AFI ends; that of its LCAF
-- or of its address. Of AFI 0 nothing follows.
unfoldable pub entry_at : List ℕ → Result (Entry × List ℕ) ForeignFault
entry_at bytes =
    if nat_lt (length bytes) 8 then Err Short
    else if big_number 2 (drop 6 bytes) == lcaf then lcaf_at bytes
    else if big_number 2 (drop 6 bytes) == no_address then Ok (entry_of bytes None, drop 8 bytes)
    else (in_words from_address (address_at (drop 6 bytes)) >>= λ a.
    Ok (entry_of bytes (Some a.0), drop a.1 (drop 6 bytes)))
