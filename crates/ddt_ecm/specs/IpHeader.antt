-- The IP packet inside an Encapsulated Control Message: IPv4 or IPv6, with a whole UDP datagram.
use Rattle.std.specs.Prelude.{ℕ, ◌+◌, ◌/◌, ◌==◌, nat_lt, if◌then◌else◌, List, [], ◌∷◌, ◌++◌, length, slice_index, Result, Err}
use Rattle.std.specs.Int.{w32, w128, to_be_bytes}
use Rattle.ddt_path.specs.declared.locator.Locator.{Locator}
use Rattle.ddt_path.specs.declared.locator.Locator.TheVariants.{V4, V6}
use Rattle.ddt_ecm.specs.declared.fault.RequestFault.{RequestFault}
use Rattle.ddt_ecm.specs.declared.fault.RequestFault.TheVariants.{Short, IpVersion}
use Rattle.ddt_ecm.specs.Checksum.{ones_sum}
use Rattle.ddt_ecm.specs.Ipv4Header.{pseudo4, SpellsIpv4, written_ipv4, ipv4_at}
use Rattle.ddt_ecm.specs.Ipv6Header.{pseudo6, SpellsIpv6, written_ipv6, ipv6_at}
use Rattle.ddt_ecm.specs.UdpHeader.{written_udp}

-- what spells a packet: either header, with a UDP datagram whose pseudo-header is given too
pub data SpellsIp (bytes pseudo udp : List ℕ) : Type 0 where
  Version4 : SpellsIpv4 bytes pseudo udp → SpellsIp bytes pseudo udp
  Version6 : SpellsIpv6 bytes pseudo udp → SpellsIp bytes pseudo udp

-- ---- what is written

-- the source address for an EID of IPv4: the first ITR-RLOC where it is one of IPv4, else zeros
abbrev pub source4 : List Locator → ℕ
source4 [] = 0
source4 (V4 a ∷ rlocs) = a
source4 (V6 a ∷ rlocs) = 0

-- the source address for an EID of IPv6: the first ITR-RLOC where it is one of IPv6, else zeros
abbrev pub source6 : List Locator → ℕ
source6 [] = 0
source6 (V4 a ∷ rlocs) = 0
source6 (V6 a ∷ rlocs) = a

-- an IPv4 packet to the EID's address: a message in a UDP datagram from port 4342 to port 4342, with a UDP checksum
unfoldable pub packet4 : ℕ → ℕ → List ℕ → List ℕ
packet4 source destination message =
    written_ipv4 (28 + length message) source destination
    ++ written_udp (ones_sum 0 (pseudo4 (to_be_bytes w32 source ++ to_be_bytes w32 destination) (8 + length message)))
    message

-- an IPv6 packet to the EID's address: a message in a UDP datagram from port 4342 to port 4342, with a UDP checksum
unfoldable pub packet6 : ℕ → ℕ → List ℕ → List ℕ
packet6 source destination message =
    written_ipv6 (8 + length message) source destination
    ++ written_udp (ones_sum 0 (pseudo6 (to_be_bytes w128 source ++ to_be_bytes w128 destination) (8 + length message)))
    message

-- the inner packet of a Map-Request for an EID of this address, in the EID's family, with these ITR-RLOCs
abbrev pub packet : Locator → List Locator → List ℕ → List ℕ
packet (V4 destination) rlocs message = packet4 (source4 rlocs) destination message
packet (V6 destination) rlocs message = packet6 (source6 rlocs) destination message

-- ---- the first fault

-- The checksum's sum over the pseudo-header, and the UDP datagram behind the IP header; or the first fault: no byte, a
-- version other than 4 and 6, or one of that header.
unfoldable pub ip_at : List ℕ → Result (ℕ × List ℕ) RequestFault
ip_at ip =
    if nat_lt (length ip) 1 then Err Short
    else if slice_index ip 0 / 16 == 4 then ipv4_at ip
    else if slice_index ip 0 / 16 == 6 then ipv6_at ip
    else Err IpVersion
