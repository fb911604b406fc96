-- What an ask, a datagram and a tick do: the resolver's step, what is tried over the wires, and who is told (RFC 8111,
-- section 7.3).
use Rattle.std.specs.Prelude.{ℕ, ◌≡◌, ◌<◌, List, [], ◌∷◌, ◌++◌, length, Option, Some, None, Result, Ok, Err, refl}
use Rattle.std.specs.Coded.{Coded, code_by, coded×}
use Rattle.std.specs.FinMap.{get}
use Rattle.ddt_path.specs.declared.locator.Locator.{Locator}
use Rattle.ddt_path.specs.declared.record.Outcome.{Outcome}
use Rattle.ddt_path.specs.declared.xeid.Xeid.{Xeid}
use Rattle.ddt_sockets.specs.declared.wire_calls.Call.{Call}
use Rattle.ddt_sockets.specs.Turns.{Outgoing, AreTried}
use Rattle.ddt_resolver.specs.declared.results.Outgoing.{Outgoing as Sending}
use Rattle.ddt_resolver.specs.declared.results.Asked.{Asked}
use Rattle.ddt_resolver.specs.declared.results.Asked.TheVariants as asked_as
use Rattle.ddt_resolver.specs.declared.results.AskError.{AskError}
use Rattle.ddt_resolver.specs.declared.results.AskError.TheVariants.{Memory}
use Rattle.ddt_resolver.specs.declared.results.Why.{Why}
use Rattle.ddt_resolver.specs.declared.itr_messages.ItrRequest.{ItrRequest}
use Rattle.ddt_resolver.specs.declared.step.Progress.{Progress}
use Rattle.ddt_resolver.specs.declared.step.Progress.TheVariants.{Stays, Sends, Ends}
use Rattle.ddt_resolver.specs.declared.step.Reply.{Reply}
use Rattle.ddt_resolver.specs.declared.step.Reply.TheVariants.{ToAsk, ToTick}
use Rattle.ddt_resolver.specs.declared.results.Ticked.{Ticked}
use Rattle.ddt_resolver.specs.TickStep.{HastenStep, HastenWants}
use Rattle.ddt_resolver.specs.Front.{reply_to_itr}
use Rattle.ddt_ecm.specs.UdpHeader.{control_port}
use Rattle.ddt_sockets.specs.declared.wire_calls.Call.TheVariants.{Tried}
use Rattle.ddt_sockets.specs.declared.wire_calls.NetFault.{NetFault}
use Rattle.ddt_resolver.specs.declared.pending.Pending.{Pending}
use Rattle.ddt_resolver.specs.Table.{IsUnknown}
use Rattle.ddt_resolver.specs.State.{State, moved, most_pending, server, request_bytes}
use Rattle.ddt_resolver.specs.Step as resolver
use Rattle.ddt_resolver.specs.Step.{Ask, Step, Wants, progress_of}
use Rattle.ddt_loop.specs.declared.requester.Requester.{Requester}
use Rattle.ddt_loop.specs.declared.requester.Requester.TheVariants.{Identifier, Itr}
use Rattle.ddt_loop.specs.declared.requester.WaitingRequester.{WaitingRequester}
use Rattle.ddt_loop.specs.Requesters.{Desk, with_requester, with_end, end_of, end_of_ask, TakesOff}

-- a resolver, and who waits for its lookups
pub record Running : Type 0 where
  pub state : State
  pub desk : Desk

-- a resolver in this state, and the desk of those who wait for its lookups
abbrev pub running : State → Desk → Running
running s d = record { state = s; desk = d }

-- how a compiled program may store it: as its parts
abbrev pub running_code : Coded State → Coded Desk → Coded Running
running_code state desk =
    code_by (State × Desk) (coded× state desk) (λ w. (w.state, w.desk)) (λ p.
    record { state = p.0; desk = p.1 }) (λ _. refl)

-- ---- what is tried from the resolver's socket

-- a datagram of the resolver, as wires send it
abbrev pub sent : Sending → Outgoing
sent d = record { to = d.to; port = d.port; bytes = d.bytes }

-- a request of the resolver is tried once from its own address, whatever `send` answers
abbrev pub IsSent : Locator → Sending → List Call → Type 0
IsSent me d calls = AreTried me (sent d ∷ []) calls

-- the negative Map-Reply to an ITR, where there is one
abbrev pub sent_if : Option Sending → List Outgoing
sent_if (Some d) = sent d ∷ []
sent_if None = []

-- it is tried once, whatever `send` answers; where there is none, nothing is
abbrev pub IsToldItr : Locator → Outcome → ItrRequest → List Call → Type 0
IsToldItr me o q calls = AreTried me (sent_if (reply_to_itr o q)) calls

-- ---- an ask

-- an outcome that is remembered
abbrev pub remembered : Asked → Option Outcome
remembered (asked_as.Answer o) = Some o
remembered (asked_as.Sent t d) = None

-- nothing more where the outcome is remembered; else the first request is tried, and whoever asked waits
abbrev pub Starts : Locator → Requester → Desk → Asked → List Call → Desk → Type 0
Starts me who d (asked_as.Answer o) calls new = (calls ≡ []) × (new ≡ d)
Starts me who d (asked_as.Sent t e) calls new = IsSent me e calls × (new ≡ with_requester d t who)

-- there is room for one more who waits
abbrev pub HasRoomFor : Asked → Desk → Type 0
HasRoomFor (asked_as.Answer o) d = Unit {0}
HasRoomFor (asked_as.Sent t e) d = length d.waiting < most_pending

-- Somebody asks for x at a moment. `answered`: the outcome is remembered, or a lookup starts. `refused`: too many are
-- pending, or no nonce is left. `lacks_memory`: a lookup would start, but it is out of
-- memory.
pub data Asks (me : Locator) (now : ℕ) (x : Xeid) (who : Requester) (w : Running)
    (answer : Result (Option Outcome) AskError) (calls : List Call) (new : Running) : Type 0 where
  answered : (a : Asked) → Step (moved now w.state) (Ask x) new.state (ToAsk (Ok a))
      → Starts me who w.desk a calls new.desk → answer ≡ Ok (remembered a) → Asks me now x who w answer calls new
  refused : (why : AskError) → Step (moved now w.state) (Ask x) new.state (ToAsk (Err why)) → new.desk ≡ w.desk
      → calls ≡ [] → answer ≡ Err why → Asks me now x who w answer calls new
  lacks_memory : Wants (moved now w.state) (Ask x) → new.state ≡ moved now w.state → new.desk ≡ w.desk → calls ≡ []
      → answer ≡ Err Memory → Asks me now x who w answer calls new

-- the identifier at a place is asked for, and has its end if there is one at once
pub record AsksAt (me : Locator) (now : ℕ) (place : ℕ) (x : Xeid) (w : Running) (calls : List Call) (new : Running) :
    Type 0 where
  pub answer : Result (Option Outcome) AskError
  pub midway : Running
  pub asks : Asks me now x (Identifier place) w answer calls midway
  pub ends : new ≡ record midway { desk = with_end midway.desk place (end_of_ask answer) }

-- an ITR is told at once what is remembered
abbrev pub IsToldAtOnce : Locator → Result (Option Outcome) AskError → ItrRequest → List Call → Type 0
IsToldAtOnce me (Ok (Some o)) q calls = IsToldItr me o q calls
IsToldAtOnce me (Ok None) q calls = calls ≡ []
IsToldAtOnce me (Err why) q calls = calls ≡ []

-- what an ITR asks is asked for; a refused ask drops its request
pub record AsksForItr (me : Locator) (now : ℕ) (q : ItrRequest) (w : Running) (calls : List Call) (new : Running) :
    Type 0 where
  pub answer : Result (Option Outcome) AskError
  pub asking : List Call
  pub telling : List Call
  pub asks : Asks me now q.xeid (Itr q) w answer asking new
  pub tells : IsToldAtOnce me answer q telling
  pub calls_are : calls ≡ asking ++ telling

-- ---- a datagram and a tick

-- Who waited for a lookup that has ended is told: an identifier has its end, and an ITR is sent the negative Map-Reply
-- to an outcome, if there is one.
abbrev pub IsRequesterTold : Locator → Result Outcome Why → Option Requester → Desk → List Call → Desk → Type 0
IsRequesterTold me end None d calls new = (calls ≡ []) × (new ≡ d)
IsRequesterTold me end (Some (Identifier place)) d calls new = (calls ≡ []) × (new ≡ with_end d place (end_of end))
IsRequesterTold me (Ok o) (Some (Itr q)) d calls new = IsToldItr me o q calls × (new ≡ d)
IsRequesterTold me (Err why) (Some (Itr q)) d calls new = (calls ≡ []) × (new ≡ d)

-- whoever waits for a lookup that has ended is taken off the list and told
pub record FinishesLookup (me : Locator) (t : ℕ) (end : Result Outcome Why) (d : Desk) (calls : List Call) (new : Desk)
    : Type 0 where
  pub rest : List WaitingRequester
  pub taken : Option Requester
  pub takes : TakesOff t d.waiting rest taken
  pub told : IsRequesterTold me end taken (record d { waiting = rest }) calls new

-- a lookup goes on, and its request is tried, or it ends
abbrev pub Proceeds : Locator → Desk → Progress → List Call → Desk → Type 0
Proceeds me d Stays calls new = (calls ≡ []) × (new ≡ d)
Proceeds me d (Sends t e) calls new = IsSent me e calls × (new ≡ d)
Proceeds me d (Ends t end) calls new = FinishesLookup me t end d calls new

-- The resolver hears a datagram, or ticks, at a moment. `fails`: a request would be sent or a record saved, and
-- memory ran out; nothing changes but the time.
pub data HearsOrTicks (me : Locator) (now : ℕ) (call : resolver.ResolverCall) (w : Running) (calls : List Call)
    (new : Running) : Type 0 where
  does : (reply : Reply) → Step (moved now w.state) call new.state reply
      → Proceeds me w.desk (progress_of reply) calls new.desk → HearsOrTicks me now call w calls new
  fails : Wants (moved now w.state) call → new.state ≡ moved now w.state → new.desk ≡ w.desk → calls ≡ []
      → HearsOrTicks me now call w calls new

-- The lookup whose last request has this nonce is hastened at a moment. `fails`: a request would be sent, and memory
-- ran out; nothing changes but the time.
pub data Hastens (me : Locator) (now nonce : ℕ) (w : Running) (calls : List Call) (new : Running) : Type 0 where
  does : (ticked : Ticked) → HastenStep (moved now w.state) nonce new.state ticked
      → Proceeds me w.desk (progress_of (ToTick ticked)) calls new.desk → Hastens me now nonce w calls new
  fails : HastenWants (moved now w.state) nonce → new.state ≡ moved now w.state → new.desk ≡ w.desk → calls ≡ []
      → Hastens me now nonce w calls new

-- the last request of a lookup, tried once more
abbrev pub request_tried : Locator → Pending → Result (Unit {0}) NetFault → Call
request_tried me l answer = Tried me (server me l) control_port (request_bytes l.nonce l.x me) answer

-- The last request of the lookup that has this nonce is sent again. `unknown`: no pending lookup has the nonce. `none`:
-- it is out of memory. `again`: the request is tried, with the same nonce.
pub data Resends (me : Locator) (nonce : ℕ) (s : State) (calls : List Call) : Type 0 where
  unknown : IsUnknown s.pending nonce → calls ≡ [] → Resends me nonce s calls
  none : calls ≡ [] → Resends me nonce s calls
  again : (t : ℕ) (l : Pending) (answer : Result (Unit {0}) NetFault) → get s.pending t ≡ Some l → l.nonce ≡ nonce
      → calls ≡ request_tried me l answer ∷ [] → Resends me nonce s calls
