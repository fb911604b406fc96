-- The turns of a server over wires, by their calls (RFC 8111, sections 7.1 and 7.2).
use Rattle.std.specs.Prelude.{ℕ, ◌≡◌, ◌≢◌, Bool, false, Option, Some, None, Ok, Err, is_some, is_ok}
use Rattle.std.specs.Prelude.{List, [], ◌∷◌, ◌++◌, length, All, count_by, flat_map}
use Rattle.ddt_path.specs.declared.locator.Locator.{Locator}
use Rattle.ddt_config.specs.Table.{Outline}
use Rattle.ddt_ecm.specs.UdpHeader.{control_port}
use Rattle.ddt_node.specs.declared.forward.Forward.{Forward}
use Rattle.ddt_node.specs.declared.datagram.Handled.{Handled}
use Rattle.ddt_node.specs.Server.{ddt_request, handled}
use Rattle.ddt_sockets.specs.declared.wire_calls.Call.{Call}
use Rattle.ddt_sockets.specs.declared.wire_calls.Call.TheVariants.{Received, Tried}
use Rattle.ddt_sockets.specs.declared.wire_calls.NetFault.{NetFault}
use Rattle.ddt_sockets.specs.declared.wire_calls.Packet.{Packet}
use Rattle.ddt_sockets.specs.declared.server_turns.Served.{Served}

-- no UDP datagram has more bytes, and so many have room in the buffer of each turn
abbrev pub most_bytes : ℕ
most_bytes = 65535

-- a datagram that is to be sent
pub record Outgoing : Type 0 where
  pub to : Locator
  pub port : ℕ
  pub bytes : List ℕ

-- a reply goes to where the packet came from
abbrev pub reply_to : Packet → Option (List ℕ) → List Outgoing
reply_to p None = []
reply_to p (Some reply) = record { to = p.from; port = p.port; bytes = reply } ∷ []

-- a request that goes on goes to the ETR
abbrev pub on_to_etr : Option Forward → List Outgoing
on_to_etr None = []
on_to_etr (Some f) = record { to = f.to; port = control_port; bytes = f.bytes } ∷ []

-- what a server sends for a packet: the reply first
abbrev pub sends_for : Packet → Handled → List Outgoing
sends_for p h = reply_to p h.reply ++ on_to_etr h.forward

-- a call that tries to send a datagram, whatever it answered
abbrev pub IsTry : Locator → Outgoing → Call → Type 0
IsTry at d (Received from room answer bytes) = ⊥
IsTry at d (Tried from to port bytes answer) = (from ≡ at) × (to ≡ d.to) × (port ≡ d.port) × (bytes ≡ d.bytes)

-- each of these datagrams is tried once, in this order, and nothing else is
abbrev pub AreTried : Locator → List Outgoing → List Call → Type 0
AreTried at [] [] = Unit {0}
AreTried at [] (call ∷ calls) = ⊥
AreTried at (d ∷ others) [] = ⊥
AreTried at (d ∷ others) (call ∷ calls) = IsTry at d call × AreTried at others calls

-- One turn. `no_packet`, `failed`: the one call of `receive` gave no packet. `served`: it gave one, and what the server
-- sends for these bytes is tried. `out_of_memory`: it gave a DDT Map-Request, and the server had no memory for it.
pub data IsServerTurn (c : Outline) (at : Locator) : List Call → Type 0 where
  no_packet : IsServerTurn c at (Received at most_bytes (Ok None) [] ∷ [])
  failed : (fault : NetFault) → IsServerTurn c at (Received at most_bytes (Err fault) [] ∷ [])
  served : (p : Packet) (bytes : List ℕ) (tries : List Call) → AreTried at (sends_for p (handled c bytes)) tries
      → IsServerTurn c at (Received at most_bytes (Ok (Some p)) bytes ∷ tries)
  out_of_memory : (p : Packet) (bytes : List ℕ) → ddt_request bytes ≢ None
      → IsServerTurn c at (Received at most_bytes (Ok (Some p)) bytes ∷ [])

-- whether a call gave a packet
abbrev pub gives_packet : Call → Bool
gives_packet (Received at room (Ok packet) bytes) = is_some packet
gives_packet (Received at room (Err fault) bytes) = false
gives_packet (Tried at to port bytes answer) = false

-- whether a call sent its datagram
abbrev pub went_out : Call → Bool
went_out (Received at room answer bytes) = false
went_out (Tried at to port bytes answer) = is_ok answer

-- whether the first of these calls sent its datagram; false where there is none
abbrev pub first_went_out : List Call → Bool
first_went_out [] = false
first_went_out (call ∷ calls) = went_out call

-- whether a turn received a packet
abbrev pub is_received : List Call → Bool
is_received [] = false
is_received (receive ∷ tries) = gives_packet receive

-- whether its reply was sent: the reply is what is tried first
abbrev pub is_replied : List Call → Bool
is_replied [] = false
is_replied (receive ∷ tries) = first_went_out tries

-- What a server did in so many turns: its calls are those of the turns, one after the other, and its counts are over
-- these turns.
pub record ServesTurns (c : Outline) (at : Locator) (count : ℕ) (calls : List Call) (counts : Served) : Type 0 where
  pub turns : List (List Call)
  pub calls_are : calls ≡ flat_map (λ turn. turn) turns
  pub count_is : length turns ≡ count
  pub each : All (IsServerTurn c at) turns
  pub received : counts.received ≡ count_by is_received turns
  pub replied : counts.replied ≡ count_by is_replied turns
