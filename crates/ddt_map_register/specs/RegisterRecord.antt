-- A record of a Map-Register (RFC 9301, sections 5.4 and 5.6): a prefix with its TTL and its locators.
use Rattle.std.specs.Prelude.{ℕ, ◌^◌, ◌<◌, ◌≡◌, nat_lt, if◌then◌else◌, List, [], ◌∷◌, ◌++◌, length, drop, slice_index, Result, Ok, Err}
use Rattle.std.specs.Int.{w16, w32, to_be_bytes}
use Rattle.byteorder.specs.Endian.{big_number}
use Rattle.ddt_path.specs.Steps.{◌>>=◌, in_words}
use Rattle.ddt_wire.specs.declared.eid.EidFault.{EidFault}
use Rattle.ddt_wire.specs.Eid.{SpellsEid, eid_at, eid_words}
use Rattle.ddt_map_register.specs.declared.registered_locator.RegisteredLocator.{RegisteredLocator}
use Rattle.ddt_map_register.specs.declared.fault.MapRegisterFault.{MapRegisterFault}
use Rattle.ddt_map_register.specs.declared.fault.MapRegisterFault.TheVariants.{Short, EidFamily, Lcaf, MaskLength, TailNotZero}
use Rattle.ddt_foreign.specs.Several.{several_at, SpellsSeveral}
use Rattle.ddt_map_register.specs.RegisteredLocator.{locator_at, SpellsLocator}

-- what a record says: its prefix as a path, its TTL in minutes, ACT with A and the reserved bits, the map version with
-- the reserved bits before it, and its locators
pub record RegisterRecord : Type 0 where
  pub prefix : List ℕ
  pub ttl : ℕ
  pub flags : ℕ
  pub version : ℕ
  pub locators : List RegisteredLocator

-- ---- what spells a record

-- TTL, locator count, EID mask-len, flags, version
abbrev pub record_head : ℕ → RegisterRecord → List ℕ
record_head mask v =
    to_be_bytes w32 v.ttl ++ (length v.locators ∷ mask ∷ []) ++ to_be_bytes w16 v.flags ++ to_be_bytes w16 v.version

-- these bytes spell a record
pub record SpellsRecord (bytes : List ℕ) (v : RegisterRecord) : Type 0 where
  pub mask : ℕ
  pub eid : List ℕ
  pub locators : List ℕ
  pub ttl_fits : v.ttl < 2 ^ 32
  pub mask_fits : mask < 256
  pub flags_fit : v.flags < 2 ^ 16
  pub version_fits : v.version < 2 ^ 16
  pub count_fits : length v.locators < 256
  pub spells_eid : SpellsEid mask eid v.prefix
  pub spells_locators : SpellsSeveral SpellsLocator locators v.locators
  pub whole : bytes ≡ record_head mask v ++ eid ++ locators

-- ---- the first fault

-- a fault of the EID as one of the Map-Register
abbrev pub from_eid : EidFault → MapRegisterFault
from_eid = eid_words Short EidFamily Lcaf MaskLength TailNotZero

-- the record of these parts
abbrev pub record_of : List ℕ → List ℕ → List RegisteredLocator → RegisterRecord
record_of bytes p ls = record {
  prefix = p;
  ttl = big_number 4 bytes;
  flags = big_number 2 (drop 6 bytes);
  version = big_number 2 (drop 8 bytes);
  locators = ls;
}

-- The record at the front and the bytes after it, or the first fault: it is cut before its AFI ends; that of its EID;
-- that of its first wrong locator.
unfoldable pub record_at : List ℕ → Result (RegisterRecord × List ℕ) MapRegisterFault
record_at bytes =
    if nat_lt (length bytes) 12 then Err Short
    else (in_words from_eid (eid_at (slice_index bytes 5) (drop 10 bytes)) >>= λ eid.
    several_at locator_at (slice_index bytes 4) (drop eid.1 (drop 10 bytes)) >>= λ ls.
    Ok (record_of bytes eid.0 ls.0, ls.1))
