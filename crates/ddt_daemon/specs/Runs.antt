-- What a Map-Resolver has done over any number of rounds, and what follows.
use Rattle.std.specs.Prelude.{ℕ, ◌≡◌, ◌≤◌, true, List, [], ◌∷◌, ◌++◌, All, Contains, Option, Some, Result, Ok}
use Rattle.ddt_path.specs.declared.locator.Locator.{Locator}
use Rattle.ddt_path.specs.declared.xeid.Xeid.{Xeid}
use Rattle.ddt_foreign.specs.Plain.{Gives}
use Rattle.ddt_sockets.specs.declared.wire_calls.Call.{Call}
use Rattle.ddt_sockets.specs.declared.wire_calls.Call.TheVariants.{Received, Tried}
use Rattle.ddt_sockets.specs.declared.wire_calls.Packet.{Packet}
use Rattle.ddt_sockets.specs.declared.wire_calls.NetFault.{NetFault}
use Rattle.ddt_cache.specs.Moment.{last_moment}
use Rattle.ddt_ecm.specs.UdpHeader.{control_port}
use Rattle.ddt_resolver.specs.declared.itr_messages.ItrRequest.{ItrRequest}
use Rattle.ddt_resolver.specs.Front.{IsItrRequest}
use Rattle.ddt_resolver.specs.State.{State, forgotten}
use Rattle.ddt_loop.specs.Requesters.{opening_desk}
use Rattle.ddt_loop.specs.Acts.{running, Resends}
use Rattle.ddt_loop.specs.Polls.{polled}
use Rattle.ddt_loop.specs.Runs.{BeginsSound, HasRun}
use Rattle.ddt_daemon.specs.Onward.{with_d}
use Rattle.ddt_config.specs.declared.settings.resolver_settings.Settings.{Settings}
use Rattle.ddt_daemon.specs.declared.itr_requests.WaitingRequest.{WaitingRequest}
use Rattle.ddt_daemon.specs.Goes.{sharers}
use Rattle.ddt_daemon.specs.Requests.{AsksFor}
use Rattle.ddt_daemon.specs.declared.admission.Dropped.TheVariants.{Looped}
use Rattle.ddt_daemon.specs.declared.recent_requests.Recent.{Recent}
use Rattle.ddt_daemon.specs.Recent.{coming, comes_back}
use Rattle.ddt_daemon.specs.Admitted.{IsDropped}
use Rattle.ddt_daemon.specs.Resolving.{Resolving, resolving, at_moment}
use Rattle.ddt_daemon.specs.Rounds.{IsRound, IsTick, IsHastened}

-- What has been done so far, by the calls of the near wires and those of the far wires: rounds, each by the settings in
-- force, ticks, lookups that are hastened, requests that are sent again, prefixes that are forgotten, time that passes,
-- and renewals, in any order. `renewal`: another resolver, that may begin and gives no nonce again, goes on, and
-- nothing waits.
pub data HasServed (may_begin : State → Type 0) (me : Locator) (start : Resolving) :
    List Call → List Call → Resolving → Type 0 where
  begins : HasServed may_begin me start [] [] start
  round : {calls onward : List Call} {w : Resolving} (settings : Settings) (now : ℕ) (near far : List Call)
      (new : Resolving) → HasServed may_begin me start calls onward w → now ≤ last_moment
      → IsRound settings me now w near far new → HasServed may_begin me start (calls ++ near) (onward ++ far) new
  tick : {calls onward : List Call} {w : Resolving} (now : ℕ) (near far : List Call) (new : Resolving)
      → HasServed may_begin me start calls onward w → now ≤ last_moment → IsTick me now w near far new
      → HasServed may_begin me start (calls ++ near) (onward ++ far) new
  hastening : {calls onward : List Call} {w : Resolving} (now nonce : ℕ) (near far : List Call) (new : Resolving)
      → HasServed may_begin me start calls onward w → now ≤ last_moment → IsHastened me now nonce w near far new
      → HasServed may_begin me start (calls ++ near) (onward ++ far) new
  resending : {calls onward : List Call} {w : Resolving} (nonce : ℕ) (near : List Call)
      → HasServed may_begin me start calls onward w → Resends me nonce w.running.state near
      → HasServed may_begin me start (calls ++ near) onward w
  forgetting : {calls onward : List Call} {w : Resolving} (p : List ℕ) → HasServed may_begin me start calls onward w
      → HasServed may_begin me start calls onward
      (resolving (running (forgotten w.running.state p) w.running.desk) w.kept w.counts w.recent)
  waiting : {calls onward : List Call} {w : Resolving} (now : ℕ) → HasServed may_begin me start calls onward w
      → now ≤ last_moment
      → HasServed may_begin me start calls onward (resolving (at_moment now w.running) w.kept w.counts w.recent)
  renewal : {calls onward : List Call} {w : Resolving} (new : State) → HasServed may_begin me start calls onward w
      → may_begin new → w.running.state.next ≤ new.next
      → HasServed may_begin me start calls onward (resolving (running new (opening_desk [])) [] w.counts w.recent)

-- A call of the near wires, and the same in the one spelling. `as_it_is`: it stays so. `request`: what came asks for
-- an ITR, and a request of the core's grammar asks the same. `referral`: what came answers a request for an identifier,
-- and is what is given for that.
pub data IsSpelledCall : Call → Call → Type 0 where
  as_it_is : (call : Call) → IsSpelledCall call call
  request : (at : Locator) (room : ℕ) (p : Packet) (bytes plain : List ℕ) (q : ItrRequest) → AsksFor bytes q
      → IsItrRequest plain q
      → IsSpelledCall (Received at room (Ok (Some p)) bytes) (Received at room (Ok (Some p)) plain)
  referral : (at : Locator) (room : ℕ) (p : Packet) (bytes plain : List ℕ) (x : Xeid) → Gives x bytes plain
      → IsSpelledCall (Received at room (Ok (Some p)) bytes) (Received at room (Ok (Some p)) plain)

-- the same of each, in order
pub data AreSpelled : List Call → List Call → Type 0 where
  none : AreSpelled [] []
  one : {calls plain : List Call} (call spelled : Call) → IsSpelledCall call spelled → AreSpelled calls plain
      → AreSpelled (call ∷ calls) (spelled ∷ plain)

-- By its near wires, in the one spelling, it is a running resolver, so that what holds of those holds of it. The
-- resolvers that go on begin sound for one register.
abbrev pub RunsAsAResolver : Type 0
RunsAsAResolver = (r : _) (me : Locator) (start : Resolving) (calls onward : List Call) (w : Resolving)
    → start.kept ≡ [] → HasServed (BeginsSound r me) me start calls onward w
    → (plain : List Call) × AreSpelled calls plain
    × HasRun (BeginsSound r me) me start.running plain (sharers w.kept) w.running

-- a try of an ITR's request, its bit D set, to a server
pub record IsOnward (me : Locator) (call : Call) : Type 0 where
  pub to : Locator
  pub request : ItrRequest
  pub bytes : List ℕ
  pub answer : Result (Unit {0}) NetFault
  pub asks : AsksFor bytes request
  pub is : call ≡ Tried me to control_port (with_d bytes) answer

-- the bytes of what waits are its request
abbrev pub AreRequests : List WaitingRequest → Type 0
AreRequests kept = All (λ k. AsksFor k.bytes k.request) kept

-- any resolver may go on in the place of another
abbrev pub IsAny : State → Type 0
IsAny s = Unit {0}

-- over the far wires go only requests of ITRs, their bit D set
abbrev pub OnlyRequestsGoOn : Type 0
OnlyRequestsGoOn = (me : Locator) (start : Resolving) (calls onward : List Call) (w : Resolving)
    → AreRequests start.kept → HasServed IsAny me start calls onward w → All (IsOnward me) onward

-- a request has come: a datagram that was polled, from its address, asks it
pub record HasCome (me : Locator) (calls : List Call) (came : Recent) : Type 0 where
  pub packet : Packet
  pub bytes : List ℕ
  pub polled_it : Contains calls (polled me (Ok (Some packet)) bytes)
  pub source : packet.from ≡ came.from
  pub asks : AsksFor bytes came.request

-- where nothing was remembered at first, a request is dropped as one that comes back only if the same has come before,
-- from another address
abbrev pub OnlyWhatCameIsLooped : Type 0
OnlyWhatCameIsLooped = (me : Locator) (start : Resolving) (calls onward : List Call) (w : Resolving)
    → start.recent ≡ [] → HasServed IsAny me start calls onward w
    → (settings : Settings) (now : ℕ) (from : Locator) (bytes : List ℕ) → IsDropped settings now w from bytes Looped
    → (q : ItrRequest) × (before : Recent) × AsksFor bytes q × HasCome me calls before
    × (comes_back before (coming q from now) ≡ true)
