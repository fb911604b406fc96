-- An address behind its address family identifier (AFI), as in EIDs and in locator records (RFC 9301, sections
-- 5.2 and 5.4).
use Rattle.std.specs.Prelude.{ℕ, ◌<◌, ◌^◌, ◌==◌, nat_lt, if◌then◌else◌, List, ◌++◌, length, drop, Result, Ok, Err}
use Rattle.std.specs.Int.{w16, w32, w128, to_be_bytes}
use Rattle.byteorder.specs.Endian.{big_number}
use Rattle.ddt_path.specs.declared.locator.Locator.{Locator}
use Rattle.ddt_path.specs.declared.locator.Locator.TheVariants.{V4, V6}
use Rattle.ddt_path.specs.Path.{address_number, address_width}
use Rattle.ddt_wire.specs.declared.address.AddressFault.{AddressFault}
use Rattle.ddt_wire.specs.declared.address.AddressFault.TheVariants.{Short, Family}

-- the AFI where no address follows; those of IPv4, of IPv6 and of an LCAF (RFC 8060, section 3)
abbrev pub no_address : ℕ
no_address = 0

-- the AFI in front of an IPv4 address, of 4 bytes
abbrev pub ipv4 : ℕ
ipv4 = 1

-- the AFI in front of an IPv6 address, of 16 bytes
abbrev pub ipv6 : ℕ
ipv6 = 2

-- the AFI in front of an LCAF: an EID with an Instance ID has one, and a source EID may have one of any type
abbrev pub lcaf : ℕ
lcaf = 16387

-- how many bytes an address of each family takes with its AFI
abbrev pub ipv4_len : ℕ
ipv4_len = 6

-- 2 bytes of AFI and 16 of address
abbrev pub ipv6_len : ℕ
ipv6_len = 18

-- the AFI that is written in front of an address: 1 for IPv4, 2 for IPv6
abbrev pub afi : Locator → ℕ
afi (V4 a) = ipv4
afi (V6 a) = ipv6

abbrev address_bytes : Locator → List ℕ
address_bytes (V4 a) = to_be_bytes w32 a
address_bytes (V6 a) = to_be_bytes w128 a

-- 16 bits of AFI, and 4 or 16 bytes of address
abbrev pub family_and_address : Locator → List ℕ
family_and_address a = to_be_bytes w16 (afi a) ++ address_bytes a

-- the number of an address fits its family
abbrev pub IsAddress : Locator → Type 0
IsAddress a = address_number a < 2 ^ address_width a

-- The address at the front and how many bytes it takes with its AFI, or the first fault: no AFI, another AFI, a
-- missing address.
unfoldable pub address_at : List ℕ → Result (Locator × ℕ) AddressFault
address_at bytes =
    if nat_lt (length bytes) 2 then Err Short
    else if big_number 2 bytes == ipv4 then (if nat_lt (length bytes) ipv4_len then Err Short
    else Ok (V4 (big_number 4 (drop 2 bytes)), ipv4_len))
    else if big_number 2 bytes == ipv6 then (if nat_lt (length bytes) ipv6_len then Err Short
    else Ok (V6 (big_number 16 (drop 2 bytes)), ipv6_len))
    else Err Family
