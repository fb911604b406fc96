-- An IPv4 header inside an Encapsulated Control Message, with a whole UDP datagram behind it (RFC 791, section 3.1).
use Rattle.std.specs.Prelude.{ℕ, ◌+◌, ◌-◌, ◌*◌, ◌%◌, ◌^◌, ◌<◌, ◌≡◌, ◌==◌, ◌&&◌, Bool, not, nat_lt, nat_le, if◌then◌else◌, List, [], ◌∷◌, ◌++◌, length, take, drop, slice_index, Result, Ok, Err}
use Rattle.std.specs.Int.{w16, w32, to_be_bytes}
use Rattle.byteorder.specs.Endian.{big_number}
use Rattle.ddt_path.specs.Steps.{IsBytes}
use Rattle.ddt_ecm.specs.declared.fault.RequestFault.{RequestFault}
use Rattle.ddt_ecm.specs.declared.fault.RequestFault.TheVariants.{Short, IpLength, IpChecksum, NotUdp, Fragment}
use Rattle.ddt_ecm.specs.Checksum.{ones_sum, is_right, complement}

-- The pseudo-header that UDP's checksum covers too: the two addresses, protocol 17 and the UDP length.
abbrev pub pseudo4 : List ℕ → ℕ → List ℕ
pseudo4 addresses udp_len = addresses ++ (0 ∷ 17 ∷ []) ++ to_be_bytes w16 udp_len

-- ---- what spells a packet

-- What an IPv4 header says beside the total length: the words that it has, type of service, identification, the
-- reserved bit and don't-fragment, time to live, checksum, the two addresses, and options up to its last word.
pub record Ipv4Header : Type 0 where
  pub words : ℕ
  pub service : ℕ
  pub identification : ℕ
  pub flags : ℕ
  pub hops : ℕ
  pub checksum : ℕ
  pub source : ℕ
  pub destination : ℕ
  pub options : List ℕ
  pub words_fit : words < 16
  pub service_fits : service < 256
  pub identification_fits : identification < 2 ^ 16
  pub flags_fit : flags < 4
  pub hops_fit : hops < 256
  pub checksum_fits : checksum < 2 ^ 16
  pub source_fits : source < 2 ^ 32
  pub destination_fits : destination < 2 ^ 32
  pub options_fill : 20 + length options ≡ 4 * words
  pub options_are_bytes : IsBytes options

-- version 4 in 4 bits and the words in 4; type of service; total length; identification; 2 flags, with more-fragments
-- and the offset 0 in 14 bits; time to live; protocol 17; checksum; addresses; options
abbrev pub ipv4_fields : Ipv4Header → ℕ → List ℕ
ipv4_fields h total =
    ((64 + h.words) ∷ h.service ∷ []) ++ to_be_bytes w16 total ++ to_be_bytes w16 h.identification ++ to_be_bytes w16
    (h.flags * 2 ^ 14) ++ (h.hops ∷ 17 ∷ [])
    ++ to_be_bytes w16 h.checksum ++ to_be_bytes w32 h.source ++ to_be_bytes w32 h.destination ++ h.options

-- an IPv4 packet around a UDP datagram, whose pseudo-header is given too; all but the addresses is ignored
pub record SpellsIpv4 (bytes pseudo udp : List ℕ) : Type 0 where
  pub header : Ipv4Header
  pub total_fits : 4 * header.words + length udp < 2 ^ 16
  pub right : ones_sum 0 (ipv4_fields header (4 * header.words + length udp)) ≡ 65535
  pub covered : pseudo ≡ pseudo4 (to_be_bytes w32 header.source ++ to_be_bytes w32 header.destination) (length udp)
  pub whole : bytes ≡ ipv4_fields header (4 * header.words + length udp) ++ udp

-- ---- what is written

-- version 4 and 5 words, type of service 0, total length, no identification and no fragment, time to live 64, UDP
abbrev pub ipv4_header : ℕ → ℕ → ℕ → ℕ → List ℕ
ipv4_header total checksum source destination =
    (69 ∷ 0 ∷ []) ++ to_be_bytes w16 total ++ (0 ∷ 0 ∷ 0 ∷ 0 ∷ 64 ∷ 17 ∷ []) ++ to_be_bytes w16 checksum ++ to_be_bytes
    w32 source ++ to_be_bytes w32 destination

-- the 20 bytes of header for a total length, a source and a destination, with the header checksum in place
unfoldable pub written_ipv4 : ℕ → ℕ → ℕ → List ℕ
written_ipv4 total source destination = ipv4_header total
    (complement (ones_sum 0 (ipv4_header total 0 source destination))) source destination

-- ---- the first fault

-- the number of bytes in an IPv4 header: four for each word of its length field
abbrev pub header_len : List ℕ → ℕ
header_len ip = 4 * (slice_index ip 0 % 16)

-- the header has 5 words at least, the total length is that of all bytes, and 8 bytes of UDP header fit
abbrev pub has_length4 : List ℕ → Bool
has_length4 ip = nat_le 20 (header_len ip) && (big_number 2 (drop 2 ip) == length ip && nat_le (header_len ip + 8)
    (length ip))

-- what stands behind the header, told as the sum of the pseudo-header and the UDP datagram
unfoldable pub ipv4_at : List ℕ → Result (ℕ × List ℕ) RequestFault
ipv4_at ip =
    if nat_lt (length ip) 20 then Err Short
    else if not (has_length4 ip) then Err IpLength
    else if not (is_right (ones_sum 0 (take (header_len ip) ip))) then Err IpChecksum
    else if not (slice_index ip 9 == 17) then Err NotUdp
    else if not (big_number 2 (drop 6 ip) % 2 ^ 14 == 0) then Err Fragment
    else Ok (ones_sum 0 (pseudo4 (take 8 (drop 12 ip)) (length ip - header_len ip)), drop (header_len ip) ip)
