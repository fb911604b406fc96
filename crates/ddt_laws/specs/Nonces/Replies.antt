-- Which replies come through wires with random nonces: those to requests that went out over the wires below.
use Rattle.std.specs.Prelude.{ℕ, ◌≡◌, List, ◌∷◌, ◌++◌, Contains, Some, Result, Ok}
use Rattle.ddt_path.specs.declared.locator.Locator.{Locator}
use Rattle.ddt_path.specs.declared.xeid.Xeid.{Xeid}
use Rattle.ddt_wire.specs.Referral as referral
use Rattle.ddt_ecm.specs.UdpHeader.{control_port}
use Rattle.ddt_sockets.specs.declared.wire_calls.Call.{Call}
use Rattle.ddt_sockets.specs.declared.wire_calls.Call.TheVariants.{Received, Tried}
use Rattle.ddt_sockets.specs.declared.wire_calls.NetFault.{NetFault}
use Rattle.ddt_sockets.specs.declared.wire_calls.Packet.{Packet}
use Rattle.ddt_sockets.specs.Nonces.Outstanding.{Request}
use Rattle.ddt_sockets.specs.Nonces.Translation.{IsAsked, Translates}
use Rattle.ddt_loop.specs.Right.{WasAsked}

-- the same Map-Referral with another nonce
abbrev pub renamed : referral.Message → ℕ → referral.Message
renamed v n = record v { nonce = n }

-- Somebody asked for x from this socket, by a request of this nonce to UDP port 4342 of a server.
pub record WasRequested (at to : Locator) (plain : ℕ) (x : Xeid) (calls : List Call) : Type 0 where
  pub bytes : List ℕ
  pub answer : Result (Unit {0}) NetFault
  pub asked : IsAsked bytes plain x
  pub tried : Contains calls (Tried at to control_port bytes answer)

-- A packet from p that spells v at a socket is the reply to a request (RFC 9301, section 5.2). Over the wires below it
-- came from UDP port 4342 of the same server, with a nonce of theirs, and says else the same. A request with that nonce
-- went out there before it, from this socket to this server; its caller asked for the same x with the nonce of v.
pub record IsAwaited (at : Locator) (room : ℕ) (p : Packet) (v : referral.Message) (earlier wire : List Call) : Type 0
  where
    pub nonce : ℕ
    pub x : Xeid
    pub before : List Call
    pub after : List Call
    pub bytes : List ℕ
    pub from_server : p.port ≡ control_port
    pub came : wire ≡ before ++ Received at room (Ok (Some p)) bytes ∷ after
    pub spells : referral.Spells bytes (renamed v nonce)
    pub went_out : WasAsked at p.from nonce x before
    pub asked : WasRequested at p.from v.nonce x earlier

-- Each Map-Referral that the caller of wires with random nonces is given is the reply to a request of its own.
abbrev pub LiftedRepliesWereAsked : Type 0
LiftedRepliesWereAsked =
    (plain wire : List Call) (sent : List Request) → Translates plain wire sent
    → (earlier later : List Call) (at : Locator) (room : ℕ) (p : Packet) (bytes : List ℕ) (v : referral.Message)
    → plain ≡ earlier ++ Received at room (Ok (Some p)) bytes ∷ later → referral.Spells bytes v
    → IsAwaited at room p v earlier wire
