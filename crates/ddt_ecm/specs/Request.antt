-- An Encapsulated Map-Request (RFC 9301, sections 5.2 and 5.8; the D bit of RFC 8111, section 5).
use Rattle.std.specs.Prelude.{ℕ, ◌*◌, ◌/◌, ◌%◌, ◌<◌, ◌≡◌, ◌==◌, Bool, List, ◌++◌, slice_index, Result, Ok}
use Rattle.ddt_path.specs.declared.locator.Locator.{Locator}
use Rattle.ddt_path.specs.declared.xeid.Xeid.{Xeid}
use Rattle.ddt_path.specs.Steps.{◌>>=◌}
use Rattle.ddt_ecm.specs.declared.fault.RequestFault.{RequestFault}
use Rattle.ddt_ecm.specs.EcmHeader.{first_byte, d_place, ecm_fields, ecm_header, ecm_at}
use Rattle.ddt_ecm.specs.IpHeader.{SpellsIp, packet, ip_at}
use Rattle.ddt_ecm.specs.UdpHeader.{SpellsUdp, udp_at}
use Rattle.ddt_ecm.specs.MapRequest.{SpellsRequest, written_map_request, map_request_at}

-- what a request says: its nonce, whether it has the D bit, the inner source port, the identifier, all its ITR-RLOCs
pub record Message : Type 0 where
  pub nonce : ℕ
  pub ddt : Bool
  pub port : ℕ
  pub xeid : Xeid
  pub rlocs : List Locator

-- ---- what spells a request

-- these bytes, all of them, spell a request: an ECM header and an IP packet, in which a UDP datagram has a Map-Request
pub record Spells (bytes : List ℕ) (v : Message) : Type 0 where
  pub ignored : ℕ
  pub packet : List ℕ
  pub pseudo : List ℕ
  pub udp : List ℕ
  pub request : List ℕ
  pub ignored_fits : ignored < d_place * first_byte
  pub spells_ip : SpellsIp packet pseudo udp
  pub spells_udp : SpellsUdp pseudo udp v.port request
  pub spells_request : SpellsRequest request v.nonce v.xeid v.rlocs
  pub whole : bytes ≡ ecm_fields v.ddt ignored ++ packet

-- ---- what is written

-- The one spelling. What stands in the inner headers, the ports and the ITR-RLOCs beyond the RFCs is this project's
-- choice.
abbrev pub written : ℕ → Xeid → List Locator → Bool → List ℕ
written nonce x rlocs ddt = ecm_header ddt ++ packet x.address rlocs (written_map_request nonce x rlocs)

-- ---- the first fault

-- the inner source port and the message behind the inner headers, or the first fault of the headers
unfoldable pub inner_in : List ℕ → Result (ℕ × List ℕ) RequestFault
inner_in bytes = do
  ip ← ecm_at bytes
  udp ← ip_at ip
  udp_at udp.0 udp.1

-- The request, or the first fault. The ECM header is judged first, then the IP header, the UDP header and the
-- Map-Request.
unfoldable pub message_in : List ℕ → Result Message RequestFault
message_in bytes = do
  ip ← ecm_at bytes
  udp ← ip_at ip
  data_ ← udp_at udp.0 udp.1
  asked ← map_request_at data_.1
  Ok (record {
    nonce = asked.0;
    ddt = slice_index bytes 0 / d_place % 2 == 1;
    port = data_.0;
    xeid = asked.1;
    rlocs = asked.2;
  })
