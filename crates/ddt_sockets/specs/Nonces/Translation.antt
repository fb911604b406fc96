-- What wires with random nonces do with each call: what their caller sees, and what is called of the wires below.
use Rattle.std.specs.Prelude.{ℕ, ◌≡◌, ◌≢◌, ◌<◌, ◌≤◌, ◌^◌, ◌⊎◌, true, false, List, [], ◌∷◌, ◌++◌, length, take, drop, All, Option, None, Some, Result, Ok, Err}
use Rattle.std.specs.Int.{w64, to_be_bytes}
use Rattle.rand_core.specs.Stream.{Stream, next_u64}
use Rattle.ddt_path.specs.declared.locator.Locator.{Locator}
use Rattle.ddt_path.specs.declared.xeid.Xeid.{Xeid}
use Rattle.ddt_wire.specs.declared.message_type.MessageType.TheVariants.{MapReferral}
use Rattle.ddt_wire.specs.MessageType.{is_of}
use Rattle.ddt_ecm.specs.Request as request
use Rattle.ddt_ecm.specs.Request.{written}
use Rattle.ddt_ecm.specs.UdpHeader.{control_port}
use Rattle.ddt_sockets.specs.declared.wire_calls.Call.{Call}
use Rattle.ddt_sockets.specs.declared.wire_calls.Call.TheVariants.{Received, Tried}
use Rattle.ddt_sockets.specs.declared.wire_calls.NetFault.{NetFault}
use Rattle.ddt_sockets.specs.declared.wire_calls.NetFault.TheVariants.{Receive, Send}
use Rattle.ddt_sockets.specs.declared.wire_calls.Packet.{Packet}
use Rattle.ddt_sockets.specs.Nonces.Outstanding.{Request, is_reply_to, noted}

-- a request from this socket to this address, with this nonce on the wire and this one of its caller
abbrev pub sent_to : Locator → Locator → ℕ → ℕ → Request
sent_to at_ to_ wire_ plain_ = record { at = at_; to = to_; wire = wire_; plain = plain_ }

-- these bytes, all of them, spell a request of a DDT client for x, with this nonce
pub record IsAsked (bytes : List ℕ) (nonce : ℕ) (x : Xeid) : Type 0 where
  pub message : request.Message
  pub spells : request.Spells bytes message
  pub by_client : message.ddt ≡ true
  pub its_nonce : message.nonce ≡ nonce
  pub its_xeid : message.xeid ≡ x

-- a message with another nonce, which follows its first four bytes
abbrev pub with_nonce : ℕ → List ℕ → List ℕ
with_nonce nonce bytes = take 4 bytes ++ to_be_bytes w64 nonce ++ drop 12 bytes

-- a message of the type of Map-Referrals, whatever else it says, has this nonce after its first four bytes
pub record IsNumbered (bytes : List ℕ) (nonce : ℕ) : Type 0 where
  pub kind : is_of MapReferral bytes ≡ true
  pub nonce_fits : nonce < 2 ^ 64
  pub long : 12 ≤ length bytes
  pub whole : bytes ≡ with_nonce nonce bytes

-- the reply is to no request that is outstanding: it comes from another port than 4342, or none was sent from this
-- socket to where it comes from with its nonce
abbrev pub IsStrange : Locator → List Request → Packet → ℕ → Type 0
IsStrange at old p nonce = (p.port ≢ control_port) ⊎ All (λ s. is_reply_to at p.from nonce s ≡ false) old

-- One call, beside the calls of the wires below. `asks`: a request of a DDT client to UDP port 4342 goes out with a
-- nonce that no outstanding request has, and with the socket's locator as its ITR-RLOC. `unsent`: it isn't sent, if
-- out of memory, if the nonce is in use, or where its server is passed over. `passes`: any other datagram goes out as
-- it is. `none`, `failed`: nothing came. `gives`: what isn't of the type of Map-Referrals is given as it came. `lifts`:
-- the reply to an outstanding request is given with its caller's nonce, and the request isn't outstanding any more.
-- `drops`: any other of that type is lost (RFC 8111, section 5; RFC 9301, section 5.2).
pub data IsTranslated (old : List Request) : Call → List Call → List Request → Type 0 where
  asks : (at to : Locator) (bytes : List ℕ) (plain wire : ℕ) (x : Xeid) (answer : Result (Unit {0}) NetFault)
      → IsAsked bytes plain x → All (λ s. s.wire ≢ wire) old
      → IsTranslated old (Tried at to control_port bytes answer)
      (Tried at to control_port (written wire x (at ∷ []) true) answer ∷ []) (noted old (sent_to at to wire plain))
  unsent : (at to : Locator) (bytes : List ℕ) (plain : ℕ) (x : Xeid) → IsAsked bytes plain x
      → IsTranslated old (Tried at to control_port bytes (Err Send)) [] old
  passes : (at to : Locator) (port : ℕ) (bytes : List ℕ) (answer : Result (Unit {0}) NetFault)
      → (port ≡ control_port → (nonce : ℕ) (x : Xeid) → IsAsked bytes nonce x → ⊥)
      → IsTranslated old (Tried at to port bytes answer) (Tried at to port bytes answer ∷ []) old
  none : (at : Locator) (room : ℕ)
      → IsTranslated old (Received at room (Ok None) []) (Received at room (Ok None) [] ∷ []) old
  failed : (at : Locator) (room : ℕ) (fault : NetFault)
      → IsTranslated old (Received at room (Err fault) []) (Received at room (Err fault) [] ∷ []) old
  gives : (at : Locator) (room : ℕ) (p : Packet) (bytes : List ℕ) → ((nonce : ℕ) → IsNumbered bytes nonce → ⊥)
      → IsTranslated old (Received at room (Ok (Some p)) bytes) (Received at room (Ok (Some p)) bytes ∷ []) old
  lifts : (at : Locator) (room : ℕ) (p : Packet) (bytes : List ℕ) (nonce : ℕ) (before after : List Request)
      (s : Request) → IsNumbered bytes nonce → p.port ≡ control_port → is_reply_to at p.from nonce s ≡ true
      → old ≡ before ++ s ∷ after
      → IsTranslated old (Received at room (Ok (Some p)) (with_nonce s.plain bytes))
      (Received at room (Ok (Some p)) bytes ∷ []) (before ++ after)
  drops : (at : Locator) (room : ℕ) (p : Packet) (bytes : List ℕ) (nonce : ℕ) → IsNumbered bytes nonce
      → IsStrange at old p nonce
      → IsTranslated old (Received at room (Err Receive) []) (Received at room (Ok (Some p)) bytes ∷ []) old

-- A request for x, from this socket to this address, is ready: its nonce is the one that the generator gives next,
-- which no outstanding request has, and it is outstanding from now on.
pub record IsPrepared (at to : Locator) (plain : ℕ) (x : Xeid) (s : Stream) (old new : List Request) (bytes : List ℕ) :
    Type 0 where
  pub unused : All (λ r. r.wire ≢ (next_u64 s).0) old
  pub spelled : bytes ≡ written (next_u64 s).0 x (at ∷ []) true
  pub outstanding : new ≡ noted old (sent_to at to (next_u64 s).0 plain)

-- The nonce on the wire of what has gone out, if a request has, is the one that the generator gives next.
abbrev pub IsDrawn : Locator → Locator → Stream → List Request → List Request → Type 0
IsDrawn at to s old new =
    (new ≡ old) ⊎ ((plain : ℕ) × (new ≡ noted old (sent_to at to (next_u64 s).0 plain)))

-- The calls so far, beside those of the wires below, and what is outstanding after them. `one`: one more call.
-- `forgets`: requests that stand side by side in the list, as all of them, are forgotten.
pub data Translates : List Call → List Call → List Request → Type 0 where
  begins : Translates [] [] []
  one : {plain wire : List Call} {old : List Request} (call : Call) (calls : List Call) (new : List Request)
      → Translates plain wire old → IsTranslated old call calls new
      → Translates (plain ++ call ∷ []) (wire ++ calls) new
  forgets : {plain wire : List Call} {old : List Request} (before gone after : List Request)
      → Translates plain wire old → old ≡ before ++ gone ++ after → Translates plain wire (before ++ after)

-- wires with random nonces: what they have told, what the wires below have told, and what is outstanding
pub record Translation : Type 0 where
  pub told : Option (List Call)
  pub below : Option (List Call)
  pub sent : List Request

-- the calls that the one tells are those that the other tells, translated
abbrev pub IsTranslation : Translation → Type 0
IsTranslation v = (plain wire : List Call) → v.told ≡ Some plain → v.below ≡ Some wire → Translates plain wire v.sent

-- nothing is outstanding any more
abbrev pub forgotten : Translation → Translation
forgotten v = record v { sent = [] }
