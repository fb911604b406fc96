-- An IPv6 header inside an Encapsulated Control Message, with a whole UDP datagram behind it (RFC 8200, section 3).
use Rattle.std.specs.Prelude.{ℕ, ◌+◌, ◌-◌, ◌*◌, ◌^◌, ◌<◌, ◌≡◌, ◌==◌, ◌&&◌, Bool, not, nat_lt, nat_le, if◌then◌else◌, List, [], ◌∷◌, ◌++◌, length, take, drop, slice_index, Result, Ok, Err}
use Rattle.std.specs.Int.{w16, w32, w128, to_be_bytes}
use Rattle.byteorder.specs.Endian.{big_number}
use Rattle.ddt_ecm.specs.declared.fault.RequestFault.{RequestFault}
use Rattle.ddt_ecm.specs.declared.fault.RequestFault.TheVariants.{Short, IpLength, NotUdp}
use Rattle.ddt_ecm.specs.Checksum.{ones_sum}

-- the pseudo-header that UDP's checksum covers too: the two addresses, the UDP length and the next header 17
abbrev pub pseudo6 : List ℕ → ℕ → List ℕ
pseudo6 addresses udp_len = addresses ++ to_be_bytes w32 udp_len ++ to_be_bytes w32 17

-- ---- what spells a packet

-- what an IPv6 header says beside the payload length: traffic class and flow label, hop limit, and the two addresses
pub record Ipv6Header : Type 0 where
  pub class_and_label : ℕ
  pub hops : ℕ
  pub source : ℕ
  pub destination : ℕ
  pub class_and_label_fit : class_and_label < 2 ^ 28
  pub hops_fit : hops < 256
  pub source_fits : source < 2 ^ 128
  pub destination_fits : destination < 2 ^ 128

-- version 6 in 4 bits, traffic class and flow label in 28; payload length; next header 17; hop limit; addresses
abbrev pub ipv6_fields : Ipv6Header → ℕ → List ℕ
ipv6_fields h payload =
    to_be_bytes w32 (6 * 2 ^ 28 + h.class_and_label) ++ to_be_bytes w16 payload ++ (17 ∷ h.hops ∷ []) ++ to_be_bytes
    w128 h.source ++ to_be_bytes w128 h.destination

-- an IPv6 packet around a UDP datagram, whose pseudo-header is given too; all but the addresses is ignored
pub record SpellsIpv6 (bytes pseudo udp : List ℕ) : Type 0 where
  pub header : Ipv6Header
  pub payload_fits : length udp < 2 ^ 16
  pub covered : pseudo ≡ pseudo6 (to_be_bytes w128 header.source ++ to_be_bytes w128 header.destination) (length udp)
  pub whole : bytes ≡ ipv6_fields header (length udp) ++ udp

-- ---- what is written

-- version 6, traffic class and flow label 0, payload length, UDP, hop limit 64
abbrev pub ipv6_head : ℕ → List ℕ
ipv6_head payload = (96 ∷ 0 ∷ 0 ∷ 0 ∷ []) ++ to_be_bytes w16 payload ++ (17 ∷ 64 ∷ [])

-- the 40 bytes of header for a payload length, a source and a destination
unfoldable pub written_ipv6 : ℕ → ℕ → ℕ → List ℕ
written_ipv6 payload source destination = ipv6_head payload ++ (to_be_bytes w128 source ++ to_be_bytes w128 destination)

-- ---- the first fault

-- the payload length is that of all bytes after the header, and 8 bytes of UDP header fit
abbrev pub has_length6 : List ℕ → Bool
has_length6 ip = big_number 2 (drop 4 ip) + 40 == length ip && nat_le 48 (length ip)

-- The checksum's sum over the pseudo-header, and the UDP datagram behind the 40 bytes of header; or the first fault.
-- Extension headers are refused: the next header has to be 17, UDP.
unfoldable pub ipv6_at : List ℕ → Result (ℕ × List ℕ) RequestFault
ipv6_at ip =
    if nat_lt (length ip) 40 then Err Short
    else if not (has_length6 ip) then Err IpLength
    else if not (slice_index ip 6 == 17) then Err NotUdp
    else Ok (ones_sum 0 (pseudo6 (take 32 (drop 8 ip)) (length ip - 40)), drop 40 ip)
