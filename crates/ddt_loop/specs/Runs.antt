-- What a resolver has done over any number of rounds, and what follows where the replies that it gets are fair.
use Rattle.std.specs.Prelude.{ℕ, ◌≡◌, ◌≢◌, ◌≤◌, List, [], ◌∷◌, ◌++◌, true, Option, Some, None, Result, Ok}
use Rattle.std.specs.FinMap.{get}
use Rattle.ddt_path.specs.declared.locator.Locator.{Locator}
use Rattle.ddt_register.specs.declared.register.Register.{Register}
use Rattle.ddt_sockets.specs.declared.wire_calls.Call.{Call}
use Rattle.ddt_sockets.specs.declared.wire_calls.Call.TheVariants.{Received}
use Rattle.ddt_sockets.specs.declared.wire_calls.NetFault.{NetFault}
use Rattle.ddt_resolver.specs.declared.pending.Pending.{Pending}
use Rattle.ddt_sockets.specs.declared.wire_calls.Packet.{Packet}
use Rattle.ddt_cache.specs.Moment.{last_moment}
use Rattle.ddt_resolver.specs.Order.{IsStateInOrder}
use Rattle.ddt_ecm.specs.UdpHeader.{control_port}
use Rattle.ddt_resolver.specs.Front.{IsItrRequest}
use Rattle.ddt_resolver.specs.State.{State, moved, forgotten}
use Rattle.ddt_resolver.specs.Step.{Hear, Tick}
use Rattle.ddt_resolver.specs.Within.{IsCut}
use Rattle.ddt_sim.specs.Schedules.{StartsSound}
use Rattle.ddt_sim.specs.Sound.{IsSound}
use Rattle.ddt_loop.specs.Requesters.{opening_desk}
use Rattle.ddt_loop.specs.declared.packet_outcome.Ended.{Ended}
use Rattle.ddt_loop.specs.Acts.{Running, running, HearsOrTicks, Hastens, request_tried}
use Rattle.ddt_loop.specs.Ends.{EndsBy, EndsByHaste}
use Rattle.ddt_loop.specs.Sharing.{Sharer, MayShare, TellsSharers}
use Rattle.ddt_loop.specs.Polls.{IsPacketTaken}
use Rattle.ddt_loop.specs.Right.{ArePacketsFair, is_poll, RepliesAreOwed}

-- what is heard of a datagram: all of it, or what it is cut to
abbrev pub heard_of : List ℕ → Option (List ℕ) → List ℕ
heard_of bytes None = bytes
heard_of bytes (Some cut) = cut

-- A packet is heard so. `other_port`, not from UDP port 4342: as it came. `from_server`: as it came too, but for a
-- reply that reaches beyond its zone, which is cut to it.
pub data IsHeardAs (s : State) (p : Packet) (bytes heard : List ℕ) : Type 0 where
  other_port : p.port ≢ control_port → heard ≡ bytes → IsHeardAs s p bytes heard
  from_server : (cut : Option (List ℕ)) → p.port ≡ control_port → IsCut s p.from bytes cut → heard ≡ heard_of bytes cut
      → IsHeardAs s p bytes heard

-- a lookup that an ITR waited for has ended so, or none is said to have
abbrev pub MayEndBy : (Ended → Type 0) → Option Ended → Type 0
MayEndBy ends None = Unit {0}
MayEndBy ends (Some e) = ends e

-- a packet from UDP port 4342, heard so, has ended the lookup of an ITR
pub record EndsByReply (now : ℕ) (p : Packet) (heard : List ℕ) (w new : Running) (e : Ended) : Type 0 where
  pub port : p.port ≡ control_port
  pub ends : EndsBy (Hear p.from heard) (moved now w.state) new.state w.desk.waiting new.desk.waiting e

-- a resolver that begins in order, sound for a register, with nothing pending and with this address
pub record BeginsSound (r : Register) (me : Locator) (s : State) : Type 0 where
  pub order : IsStateInOrder s
  pub starts : StartsSound r s
  pub own : s.me ≡ me

-- What has been done so far, in any order, and who shares lookups. `took`: a packet came to the resolver's socket and
-- was taken, a reply that reaches beyond its zone cut to that. `ticked`: it ticked. `hastened`: a lookup was hastened.
-- Of each, those who share a lookup that has ended are told. `shared`: a request of an ITR came, and shares the lookup
-- that is pending for its identifier. `waited`: time passed. `forgot`: what is remembered of a prefix was forgotten.
-- `resent`: the last request of a pending lookup was sent again. `passed`: a poll gave no packet, or one that was
-- dropped. `renewed`: another resolver, that may begin and gives no nonce again, goes on, and nobody waits any more.
pub data HasRun (may_begin : State → Type 0) (me : Locator) (start : Running)
    : List Call → List Sharer → Running → Type 0
  where
    begins : HasRun may_begin me start [] [] start
    took : {calls : List Call} {sharers : List Sharer} {w : Running} (now room : ℕ) (p : Packet)
        (bytes heard : List ℕ) (tries : List Call) (ended : Option Ended) (tells : List Call) (left : List Sharer)
        (new : Running) → HasRun may_begin me start calls sharers w → now ≤ last_moment
        → IsHeardAs w.state p bytes heard → IsPacketTaken me now p heard w tries new
        → MayEndBy (EndsByReply now p heard w new) ended → TellsSharers me sharers ended tells left
        → HasRun may_begin me start (calls ++ Received me room (Ok (Some p)) bytes ∷ (tries ++ tells)) left new
    ticked : {calls : List Call} {sharers : List Sharer} {w : Running} (now : ℕ) (tries : List Call)
        (ended : Option Ended) (tells : List Call) (left : List Sharer) (new : Running)
        → HasRun may_begin me start calls sharers w → now ≤ last_moment → HearsOrTicks me now Tick w tries new
        → MayEndBy (EndsBy Tick (moved now w.state) new.state w.desk.waiting new.desk.waiting) ended
        → TellsSharers me sharers ended tells left → HasRun may_begin me start (calls ++ (tries ++ tells)) left new
    hastened : {calls : List Call} {sharers : List Sharer} {w : Running} (now nonce : ℕ) (tries : List Call)
        (ended : Option Ended) (tells : List Call) (left : List Sharer) (new : Running)
        → HasRun may_begin me start calls sharers w → now ≤ last_moment → Hastens me now nonce w tries new
        → MayEndBy (EndsByHaste nonce (moved now w.state) new.state w.desk.waiting new.desk.waiting) ended
        → TellsSharers me sharers ended tells left → HasRun may_begin me start (calls ++ (tries ++ tells)) left new
    shared : {calls : List Call} {sharers : List Sharer} {w : Running} (room : ℕ) (p : Packet) (bytes : List ℕ)
        (j : Sharer) → HasRun may_begin me start calls sharers w → IsItrRequest bytes j.request → MayShare w.desk j
        → HasRun may_begin me start (calls ++ Received me room (Ok (Some p)) bytes ∷ []) (sharers ++ j ∷ []) w
    waited : {calls : List Call} {sharers : List Sharer} {w : Running} (now : ℕ)
        → HasRun may_begin me start calls sharers w → now ≤ last_moment
        → HasRun may_begin me start calls sharers (running (moved now w.state) w.desk)
    forgot : {calls : List Call} {sharers : List Sharer} {w : Running} (p : List ℕ)
        → HasRun may_begin me start calls sharers w
        → HasRun may_begin me start calls sharers (running (forgotten w.state p) w.desk)
    resent : {calls : List Call} {sharers : List Sharer} {w : Running} (t : ℕ) (l : Pending)
        (answer : Result (Unit {0}) NetFault) → HasRun may_begin me start calls sharers w
        → get w.state.pending t ≡ Some l
        → HasRun may_begin me start (calls ++ request_tried me l answer ∷ []) sharers w
    passed : {calls : List Call} {sharers : List Sharer} {w : Running} (call : Call)
        → HasRun may_begin me start calls sharers w → is_poll call ≡ true
        → HasRun may_begin me start (calls ++ call ∷ []) sharers w
    renewed : {calls : List Call} {sharers : List Sharer} {w : Running} (new : State)
        → HasRun may_begin me start calls sharers w → may_begin new → w.state.next ≤ new.next
        → HasRun may_begin me start calls [] (running new (opening_desk []))

-- A resolver begins sound for a register, with its own address and with nobody who waits, and so does each that goes on
-- in its place. Where the calls since then are fair, each negative Map-Reply is owed for what the register assigns, and
-- the resolver is sound.
abbrev pub FairRunsAreRight : Type 0
FairRunsAreRight = (r : Register) (me : Locator) (start : State) (calls : List Call) (sharers : List Sharer) (w : Running)
    → BeginsSound r me start → HasRun (BeginsSound r me) me (running start (opening_desk [])) calls sharers w
    → ArePacketsFair r me calls → RepliesAreOwed r me calls × IsSound r w.state
