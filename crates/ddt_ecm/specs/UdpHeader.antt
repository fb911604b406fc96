-- The UDP header inside an Encapsulated Control Message (RFC 768), behind a pseudo-header.
use Rattle.std.specs.Prelude.{ℕ, ◌+◌, ◌^◌, ◌<◌, ◌≡◌, ◌⊎◌, ◌==◌, ◌||◌, not, if◌then◌else◌, List, ◌++◌, length, drop, Result, Ok, Err}
use Rattle.std.specs.Int.{w16, to_be_bytes}
use Rattle.byteorder.specs.Endian.{big_number}
use Rattle.ddt_ecm.specs.declared.fault.RequestFault.{RequestFault}
use Rattle.ddt_ecm.specs.declared.fault.RequestFault.TheVariants.{UdpLength, UdpChecksum, Port}
use Rattle.ddt_ecm.specs.Checksum.{ones_sum, is_right, complement}

-- the UDP port of LISP control messages (RFC 9301, section 5)
abbrev pub control_port : ℕ
control_port = 4342

-- ---- what spells a datagram

-- source port, the control port as destination port, length and checksum
abbrev pub udp_fields : ℕ → ℕ → ℕ → List ℕ
udp_fields port len checksum =
    to_be_bytes w16 port ++ to_be_bytes w16 control_port ++ to_be_bytes w16 len ++ to_be_bytes w16 checksum

-- A UDP datagram from a port, with a message. Its length counts the header. A checksum of 0 counts as absent; any other
-- is right over the pseudo-header and the datagram.
pub record SpellsUdp (pseudo bytes : List ℕ) (port : ℕ) (message : List ℕ) : Type 0 where
  pub checksum : ℕ
  pub port_fits : port < 2 ^ 16
  pub len_fits : 8 + length message < 2 ^ 16
  pub checksum_fits : checksum < 2 ^ 16
  pub right : (checksum ≡ 0) ⊎ (ones_sum 0 (pseudo ++ bytes) ≡ 65535)
  pub whole : bytes ≡ udp_fields port (8 + length message) checksum ++ message

-- ---- what is written

-- a checksum of 0 would count as absent
abbrev pub not_absent : ℕ → ℕ
not_absent checksum = if checksum == 0 then 65535 else checksum

-- a datagram behind a pseudo-header of this sum
unfoldable pub written_udp : ℕ → List ℕ → List ℕ
written_udp pseudo message =
    let len = 8 + length message in
    udp_fields control_port len (not_absent (complement (ones_sum pseudo (udp_fields control_port len 0 ++ message))))
    ++ message

-- ---- the first fault

-- The source port and the data, behind a pseudo-header of which the sum is given.
unfoldable pub udp_at : ℕ → List ℕ → Result (ℕ × List ℕ) RequestFault
udp_at pseudo udp =
    if not (big_number 2 (drop 4 udp) == length udp) then Err UdpLength
    else if not (big_number 2 (drop 6 udp) == 0 || is_right (ones_sum pseudo udp)) then Err UdpChecksum
    else if not (big_number 2 (drop 2 udp) == control_port) then Err Port
    else Ok (big_number 2 udp, drop 8 udp)
