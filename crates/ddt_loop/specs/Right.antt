-- What holds of a running resolver over the compiled servers of a register, where the replies that it gets are what the
-- register says.
use Rattle.std.specs.Prelude.{ℕ, ◌≡◌, ◌≢◌, ◌⊎◌, Bool, true, false, List, [], ◌∷◌, ◌++◌, Contains, Option, Some, Result, Ok}
use Rattle.ddt_path.specs.declared.locator.Locator.{Locator}
use Rattle.ddt_path.specs.declared.record.ReferralRecord.{ReferralRecord}
use Rattle.ddt_path.specs.declared.xeid.Xeid.{Xeid}
use Rattle.ddt_path.specs.Path.{xeid_path}
use Rattle.ddt_path.specs.Locators.{lists}
use Rattle.ddt_register.specs.declared.register.Register.{Register}
use Rattle.ddt_check.specs.Assignment.{assignment}
use Rattle.ddt_check.specs.Says.{says}
use Rattle.ddt_config.specs.Table.{Outline}
use Rattle.ddt_sockets.specs.declared.wire_calls.Call.{Call}
use Rattle.ddt_sockets.specs.declared.wire_calls.Call.TheVariants.{Received, Tried}
use Rattle.ddt_sockets.specs.declared.wire_calls.NetFault.{NetFault}
use Rattle.ddt_sockets.specs.declared.wire_calls.Packet.{Packet}
use Rattle.ddt_ecm.specs.UdpHeader.{control_port}
use Rattle.ddt_resolver.specs.declared.results.Outgoing.{Outgoing}
use Rattle.ddt_resolver.specs.declared.itr_messages.ItrRequest.{ItrRequest}
use Rattle.ddt_resolver.specs.Front.{IsItrRequest, reply_to_itr}
use Rattle.ddt_resolver.specs.State.{State, request_bytes}
use Rattle.ddt_resolver.specs.MatchReply.{TellsReply as IsReferralOf}
use Rattle.ddt_sim.specs.Compiled.{AreCompiled}
use Rattle.ddt_sim.specs.Schedules.{StartsSound}
use Rattle.ddt_sim.specs.Sound.{IsRightWhy}
use Rattle.ddt_loop.specs.declared.lookup_end.LoopEnd.{LoopEnd}
use Rattle.ddt_loop.specs.declared.lookup_end.LoopEnd.TheVariants.{Answer, GaveUp, Refused, Unresolved}

-- ---- the premise

-- a request of this nonce for x was tried from the resolver's socket to a server
abbrev pub WasAsked : Locator → Locator → ℕ → Xeid → List Call → Type 0
WasAsked me server nonce x calls =
    (answer : Result (Unit {0}) NetFault)
    × Contains calls (Tried me server control_port (request_bytes nonce x me) answer)

-- Of each request for x that was tried to a server before: a packet at the resolver's socket that comes from the
-- server's UDP port 4342, and spells a Map-Referral of the nonce, says what the register says there of x.
abbrev pub ArePacketsFair : Register → Locator → List Call → Type 0
ArePacketsFair r me calls =
    (earlier later : List Call) (room : ℕ) (p : Packet) (bytes : List ℕ) (nonce : ℕ) (rec : ReferralRecord) (x : Xeid)
    → calls ≡ earlier ++ Received me room (Ok (Some p)) bytes ∷ later → p.port ≡ control_port
    → IsReferralOf bytes nonce rec → WasAsked me p.from nonce x earlier → rec ≡ says r p.from (xeid_path x)

-- ---- the ends

-- the outcome is what the register assigns to the identifier; a lookup gives up where replies or nonces run out
abbrev pub IsRightLoopEnd : Register → Xeid → LoopEnd → Type 0
IsRightLoopEnd r x (Answer o) = o ≡ assignment r (xeid_path x)
IsRightLoopEnd r x (GaveUp why) = IsRightWhy why
IsRightLoopEnd r x (Refused why) = Unit {0}
IsRightLoopEnd r x Unresolved = Unit {0}

-- whether a call polls a socket
abbrev pub is_poll : Call → Bool
is_poll (Received at room answer bytes) = true
is_poll (Tried at to port bytes answer) = false

-- ---- the replies to ITRs

-- a call that tries no reply to an ITR: a poll, a try from another socket, or a request of the resolver
abbrev pub IsNoReply : Locator → Call → Type 0
IsNoReply me (Received at room answer bytes) = Unit {0}
IsNoReply me (Tried at to port bytes answer) =
    (at ≢ me) ⊎ ((nonce : ℕ) × (x : Xeid) × (bytes ≡ request_bytes nonce x me))

-- The ITRs that may be replied to after some calls, by their requests, in any order. `asked`: a request of an ITR has
-- come. `told`: its one reply is tried, the negative Map-Reply for what the register assigns to its identifier.
-- `forgotten`: it gets no reply any more. `other`: a call that tries no reply.
pub data Owes (r : Register) (me : Locator) : List Call → List ItrRequest → Type 0 where
  begin : Owes r me [] []
  asked : {calls : List Call} (before after : List ItrRequest) (room : ℕ) (p : Packet) (bytes : List ℕ) (q : ItrRequest)
      → Owes r me calls (before ++ after) → IsItrRequest bytes q
      → Owes r me (calls ++ Received me room (Ok (Some p)) bytes ∷ []) (before ++ q ∷ after)
  told : {calls : List Call} (before after : List ItrRequest) (q : ItrRequest) (d : Outgoing)
      (answer : Result (Unit {0}) NetFault) → Owes r me calls (before ++ q ∷ after)
      → reply_to_itr (assignment r (xeid_path q.xeid)) q ≡ Some d
      → Owes r me (calls ++ Tried me d.to d.port d.bytes answer ∷ []) (before ++ after)
  forgotten : {calls : List Call} (before after : List ItrRequest) (q : ItrRequest)
      → Owes r me calls (before ++ q ∷ after) → Owes r me calls (before ++ after)
  other : {calls : List Call} {owed : List ItrRequest} (call : Call) → Owes r me calls owed → IsNoReply me call
      → Owes r me (calls ++ call ∷ []) owed

-- Each try from the resolver's socket is one of its requests, or the reply to an ITR: the negative Map-Reply for what
-- the register assigns, at most one to each request of an ITR.
abbrev pub RepliesAreOwed : Register → Locator → List Call → Type 0
RepliesAreOwed r me calls = (owed : List ItrRequest) × Owes r me calls owed

-- ---- where it is so

-- of the calls that wires have told between two times
abbrev pub WhenTold : Option (List Call) → Option (List Call) → (List Call → Type 0) → Type 0
WhenTold before after fact = (earlier calls : List Call) → before ≡ Some earlier → after ≡ Some (earlier ++ calls)
    → fact calls

-- The servers were compiled from a register, the resolver is sound for it and has nothing pending, its address is `me`
-- and is none of the servers', and what wires told is fair.
abbrev pub WhenFair : List Outline → State → Locator → List Locator → Option (List Call) → Option (List Call)
    → (Register → List Call → Type 0) → Type 0
WhenFair servers old me sockets before after fact =
    (r : Register) → AreCompiled servers r → StartsSound r old → old.me ≡ me → lists sockets me ≡ false
    → WhenTold before after (λ calls. ArePacketsFair r me calls → fact r calls)
