-- Which packet is the reply to a question.
use Rattle.std.specs.Prelude.{ℕ, ◌/◌, ◌==◌, ◌&&◌, ◌||◌, nat_le, Bool, false, if◌then◌else◌, List, length, drop, slice_index, Option, Some, None, Result, Ok, Err}
use Rattle.byteorder.specs.Endian.{big_number}
use Rattle.ddt_path.specs.Locators.{is_same_locator}
use Rattle.ddt_path.specs.declared.xeid.Xeid.{Xeid}
use Rattle.ddt_wire.specs.MessageType.{map_referral, map_reply}
use Rattle.ddt_foreign.specs.declared.fault.ForeignRequestFault.{ForeignRequestFault}
use Rattle.ddt_foreign.specs.Request.{Asked, request_in}
use Rattle.ddt_ecm.specs.UdpHeader.{control_port}
use Rattle.ddt_sockets.specs.declared.wire_calls.Call.{Call}
use Rattle.ddt_sockets.specs.declared.wire_calls.Call.TheVariants.{Received, Tried}
use Rattle.ddt_sockets.specs.declared.wire_calls.NetFault.{NetFault}
use Rattle.ddt_sockets.specs.declared.wire_calls.Packet.{Packet}
use Rattle.ddt_asking.specs.declared.probe_options.Client.{Client}
use Rattle.ddt_asking.specs.declared.probe_options.Client.TheVariants.{Ddt, Itr}
use Rattle.ddt_asking.specs.declared.reply_match.AwaitedReply.{AwaitedReply}

-- The bytes begin as a message of a type with this nonce: the type in the first four bits, and the nonce from the fifth
-- byte on. What follows may be anything, also what can't be read (RFC 8111, section 6.4; RFC 9301, section 5.4).
abbrev pub begins_as : ℕ → ℕ → List ℕ → Bool
begins_as kind nonce bytes =
    nat_le 12 (length bytes) && slice_index bytes 0 / 16 == kind && big_number 8 (drop 4 bytes) == nonce

-- a packet of these bytes comes from the server that was asked, from port 4342, and is a Map-Referral with the nonce of
-- the question
abbrev pub is_of_server : AwaitedReply → Packet → List ℕ → Bool
is_of_server a p bytes =
    is_same_locator p.from a.from && p.port == control_port && begins_as map_referral a.nonce bytes

-- a request for this identifier with this nonce
abbrev pub is_own_request : ℕ → Xeid → Asked → Bool
is_own_request nonce x q = q.nonce == nonce && q.xeid.iid == x.iid && is_same_locator q.xeid.address x.address

-- the same of what was read, if it could be
abbrev pub is_own_in : ℕ → Xeid → Result Asked ForeignRequestFault → Bool
is_own_in nonce x (Ok q) = is_own_request nonce x q
is_own_in nonce x (Err fault) = false

-- The bytes are an Encapsulated Map-Request for this identifier with this nonce, as any implementation writes it: a
-- Map-Server sends an ITR's request so to an ETR of the site (RFC 8111, section 7.2; RFC 9301, section 5.8).
abbrev pub is_forwarded : ℕ → Xeid → List ℕ → Bool
is_forwarded nonce x bytes = is_own_in nonce x (request_in bytes)

-- What a question waits for. A server that a resolver asks sends a Map-Referral. To an ITR comes a Map-Reply, or,
-- where it is an ETR too, its own request; from wherever.
abbrev pub is_reply_for : Client → AwaitedReply → Packet → List ℕ → Bool
is_reply_for Ddt a p bytes = is_of_server a p bytes
is_reply_for Itr a p bytes = begins_as map_reply a.nonce bytes || is_forwarded a.nonce a.xeid bytes

abbrev pub is_reply : AwaitedReply → Packet → List ℕ → Bool
is_reply a p bytes = is_reply_for a.client a p bytes

-- the same where a reply is awaited; where none is, no packet is one
abbrev pub is_awaited : Option AwaitedReply → Packet → List ℕ → Bool
is_awaited (Some a) p bytes = is_reply a p bytes
is_awaited None p bytes = false

-- the reply that an answer of `receive` gives: the packet's bytes
abbrev pub reply_in : Option AwaitedReply → Result (Option Packet) NetFault → List ℕ → Option (List ℕ)
reply_in a (Ok (Some p)) bytes = if is_awaited a p bytes then Some bytes else None
reply_in a (Ok None) bytes = None
reply_in a (Err fault) bytes = None

-- the reply that a call gives; only a call of `receive` does
abbrev pub reply_of : Option AwaitedReply → Call → Option (List ℕ)
reply_of a (Received at room answer bytes) = reply_in a answer bytes
reply_of a (Tried at to port bytes answer) = None
