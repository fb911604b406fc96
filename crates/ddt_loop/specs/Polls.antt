-- A poll of one socket, and what is done with the packet that comes.
use Rattle.std.specs.Prelude.{ℕ, ◌≡◌, ◌≢◌, ◌⊎◌, true, false, List, [], ◌∷◌, slice_get, Option, Some, None, Result, Ok, Err, zero, suc}
use Rattle.ddt_path.specs.declared.locator.Locator.{Locator}
use Rattle.ddt_config.specs.Table.{Outline}
use Rattle.ddt_sockets.specs.declared.wire_calls.Call.{Call}
use Rattle.ddt_sockets.specs.declared.wire_calls.Call.TheVariants.{Received}
use Rattle.ddt_sockets.specs.declared.wire_calls.NetFault.{NetFault}
use Rattle.ddt_sockets.specs.declared.wire_calls.Packet.{Packet}
use Rattle.ddt_ecm.specs.UdpHeader.{control_port}
use Rattle.ddt_sockets.specs.Turns.{AreTried, most_bytes, reply_to}
use Rattle.ddt_resolver.specs.declared.itr_messages.ItrRequest.{ItrRequest}
use Rattle.ddt_resolver.specs.Front.{IsItrRequest}
use Rattle.ddt_resolver.specs.Step.{Hear}
use Rattle.ddt_sim.specs.Compiled.{reply_at}
use Rattle.ddt_wire.specs.declared.message_type.MessageType.TheVariants.{Encapsulated}
use Rattle.ddt_wire.specs.MessageType.{is_of}
use Rattle.ddt_loop.specs.Acts.{Running, AsksForItr, HearsOrTicks}

-- ---- at the resolver's own socket

-- What is done with a packet. `asks`: it is the request of an ITR. `no_request`: another Encapsulated Control Message
-- is dropped. `hears`: any other datagram from UDP port 4342 is heard. `other_port`: from another port it is dropped.
pub data IsPacketTaken (me : Locator) (now : ℕ) (p : Packet) (bytes : List ℕ) (w : Running) (calls : List Call)
    (new : Running) : Type 0 where
  asks : is_of Encapsulated bytes ≡ true → (q : ItrRequest) → IsItrRequest bytes q → AsksForItr me now q w calls new
      → IsPacketTaken me now p bytes w calls new
  no_request : is_of Encapsulated bytes ≡ true → ((q : ItrRequest) → IsItrRequest bytes q → ⊥) → calls ≡ [] → new ≡ w
      → IsPacketTaken me now p bytes w calls new
  hears : is_of Encapsulated bytes ≡ false → p.port ≡ control_port → HearsOrTicks me now (Hear p.from bytes) w calls new
      → IsPacketTaken me now p bytes w calls new
  other_port : is_of Encapsulated bytes ≡ false → p.port ≢ control_port → calls ≡ [] → new ≡ w
      → IsPacketTaken me now p bytes w calls new

-- the call of `receive` that gives this answer
abbrev pub polled : Locator → Result (Option Packet) NetFault → List ℕ → Call
polled at answer bytes = Received at most_bytes answer bytes

-- a poll that gives no packet: none came, or `receive` failed
abbrev pub IsNoPacket : Locator → Call → Type 0
IsNoPacket at call = (call ≡ polled at (Ok None) []) ⊎ ((fault : NetFault) × (call ≡ polled at (Err fault) []))

-- a poll: no packet comes, or one is taken
pub data PollsMe (me : Locator) (now : ℕ) (w : Running) (calls : List Call) (new : Running) : Type 0 where
  no_packet : (call : Call) → IsNoPacket me call → calls ≡ call ∷ [] → new ≡ w → PollsMe me now w calls new
  came : (p : Packet) (bytes : List ℕ) (rest : List Call) → IsPacketTaken me now p bytes w rest new
      → calls ≡ polled me (Ok (Some p)) bytes ∷ rest → PollsMe me now w calls new

-- ---- at a server's socket

-- A poll. `served`: the servers' reply, if there is one, is tried to where the packet came from. `out_of_memory`: there
-- is one, and no memory for it, so that the packet is lost.
pub data PollsServer (servers : List Outline) (at : Locator) (calls : List Call) : Type 0 where
  none_there : (call : Call) → IsNoPacket at call → calls ≡ call ∷ [] → PollsServer servers at calls
  served : (p : Packet) (bytes : List ℕ) (reply : Option (List ℕ)) (tries : List Call)
      → reply ≡ reply_at servers at bytes → AreTried at (reply_to p reply) tries
      → calls ≡ polled at (Ok (Some p)) bytes ∷ tries → PollsServer servers at calls
  out_of_memory : (p : Packet) (bytes : List ℕ) → reply_at servers at bytes ≢ None
      → calls ≡ polled at (Ok (Some p)) bytes ∷ [] → PollsServer servers at calls

-- ---- at the socket of a place: 0 is the resolver's own

-- Place 0 is the socket of the resolver's own address. Place k + 1 is that of a server's locator, at place k of the
-- list; a poll there leaves the resolver as it was.
abbrev pub Polls : List Outline → Locator → List Locator → ℕ → ℕ → Running → List Call → Running → Type 0
Polls servers me sockets now zero w calls new = PollsMe me now w calls new
Polls servers me sockets now (suc k) w calls new =
    (at : Locator) × (slice_get sockets k ≡ Some at) × PollsServer servers at calls × (new ≡ w)
