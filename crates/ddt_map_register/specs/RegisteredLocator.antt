-- A locator of a registered record (RFC 9301, section 5.4): priorities, weights and flags, then an address after its
-- AFI. Of an LCAF (RFC 8060, section 3) no address is taken: it is passed over by its length.
use Rattle.std.specs.Prelude.{ℕ, ◌+◌, ◌^◌, ◌<◌, ◌≡◌, ◌%◌, ◌==◌, nat_lt, Bool, if◌then◌else◌, List, [], ◌∷◌, ◌++◌, length, drop, slice_index, Option, Some, None, Result, Ok, Err}
use Rattle.std.specs.Int.{w16, to_be_bytes}
use Rattle.byteorder.specs.Endian.{big_number}
use Rattle.ddt_path.specs.declared.locator.Locator.{Locator}
use Rattle.ddt_path.specs.Steps.{◌>>=◌, in_words, IsBytes}
use Rattle.ddt_wire.specs.declared.address.AddressFault.{AddressFault}
use Rattle.ddt_wire.specs.declared.address.AddressFault.TheVariants as address_fault
use Rattle.ddt_wire.specs.Address.{lcaf, family_and_address, IsAddress, address_at}
use Rattle.ddt_foreign.specs.Grammar.{any_lcaf}
use Rattle.ddt_map_register.specs.declared.registered_locator.RegisteredLocator.{RegisteredLocator}
use Rattle.ddt_map_register.specs.declared.fault.MapRegisterFault.{MapRegisterFault}
use Rattle.ddt_map_register.specs.declared.fault.MapRegisterFault.TheVariants.{Short, LocatorFamily}

-- the bit R of the flags: the locator can be reached from where it was registered
abbrev pub is_reachable : RegisteredLocator → Bool
is_reachable v = v.flags % 2 == 1

-- ---- what spells a locator

-- what comes before the AFI
abbrev pub locator_head : RegisteredLocator → List ℕ
locator_head v =
    (v.priority ∷ v.weight ∷ v.multicast_priority ∷ v.multicast_weight ∷ []) ++ to_be_bytes w16 v.flags

-- the fields are in the ranges of their bits
pub record IsRegisteredLocator (v : RegisteredLocator) : Type 0 where
  pub priority_fits : v.priority < 256
  pub weight_fits : v.weight < 256
  pub multicast_priority_fits : v.multicast_priority < 256
  pub multicast_weight_fits : v.multicast_weight < 256
  pub flags_fit : v.flags < 2 ^ 16

-- these bytes spell a locator
pub data SpellsLocator (bytes : List ℕ) (v : RegisteredLocator) : Type 0 where
  -- an IPv4 or IPv6 address
  Plain : (a : Locator) → IsRegisteredLocator v → IsAddress a → v.address ≡ Some a
      → bytes ≡ locator_head v ++ family_and_address a → SpellsLocator bytes v
  -- an LCAF of any type, of which nothing is taken
  Passed : (reserved flags type more : ℕ) (inner : List ℕ) → IsRegisteredLocator v → v.address ≡ None
      → IsBytes (reserved ∷ flags ∷ type ∷ more ∷ inner) → length inner < 2 ^ 16
      → bytes ≡ locator_head v ++ any_lcaf reserved flags type more inner → SpellsLocator bytes v

-- ---- the first fault

-- a fault of a locator's address as one of the Map-Register: Short or LocatorFamily
abbrev pub from_address : AddressFault → MapRegisterFault
from_address address_fault.Short = Short
from_address address_fault.Family = LocatorFamily

-- the fields before the AFI, beside an address
abbrev pub locator_of : List ℕ → Option Locator → RegisteredLocator
locator_of bytes a = record {
  priority = slice_index bytes 0;
  weight = slice_index bytes 1;
  multicast_priority = slice_index bytes 2;
  multicast_weight = slice_index bytes 3;
  flags = big_number 2 (drop 4 bytes);
  address = a;
}

-- a locator with an LCAF, which may be cut in its head or after it
unfoldable pub passed_at : List ℕ → Result (RegisteredLocator × List ℕ) MapRegisterFault
passed_at bytes =
    if nat_lt (length bytes) 14 then Err Short
    else if nat_lt (length bytes) (14 + big_number 2 (drop 12 bytes)) then Err Short
    else Ok (locator_of bytes None, drop (14 + big_number 2 (drop 12 bytes)) bytes)

-- The locator at the front and the bytes after it, or the first fault: it is cut before its AFI ends; then that of its
-- LCAF or of its address.
unfoldable pub locator_at : List ℕ → Result (RegisteredLocator × List ℕ) MapRegisterFault
locator_at bytes =
    if nat_lt (length bytes) 8 then Err Short
    else if big_number 2 (drop 6 bytes) == lcaf then passed_at bytes
    else (in_words from_address (address_at (drop 6 bytes)) >>= λ a.
    Ok (locator_of bytes (Some a.0), drop a.1 (drop 6 bytes)))
