-- How the lookups of a Map-Resolver end where registers replace each other meanwhile (RFC 8111, section 7.3).
use Rattle.std.specs.Prelude.{ℕ, ◌≡◌, ◌+◌, ◌<◌, ◌≤◌, nat_lt, if◌then◌else◌, IsTrue, List, [], ◌∷◌, All, Option, Some, None, Result, Ok, Err}
use Rattle.std.specs.FinMap.{get}
use Rattle.ddt_path.specs.declared.locator.Locator.{Locator}
use Rattle.ddt_path.specs.declared.record.Outcome.{Outcome}
use Rattle.ddt_path.specs.declared.record.Outcome.TheVariants.{Registered, NotRegistered, Hole}
use Rattle.ddt_path.specs.declared.record.ReferralRecord.{ReferralRecord}
use Rattle.ddt_path.specs.Covers.{covers}
use Rattle.ddt_path.specs.Locators.{lists}
use Rattle.ddt_path.specs.Path.{xeid_path}
use Rattle.ddt_path.specs.Records.{record_of}
use Rattle.ddt_register.specs.declared.register.Register.{Register}
use Rattle.ddt_check.specs.Rules.{IsAccepted}
use Rattle.ddt_check.specs.Assignment.{assignment}
use Rattle.ddt_check.specs.Says.{says}
use Rattle.ddt_ecm.specs.UdpHeader.{control_port}
use Rattle.ddt_sockets.specs.declared.wire_calls.Call.{Call}
use Rattle.ddt_sockets.specs.declared.wire_calls.Packet.{Packet}
use Rattle.ddt_resolver.specs.declared.itr_messages.ItrRequest.{ItrRequest}
use Rattle.ddt_resolver.specs.declared.pending.Pending.{Pending}
use Rattle.ddt_resolver.specs.declared.results.Why.{Why}
use Rattle.ddt_resolver.specs.MatchReply.{IsBeforeDeadline}
use Rattle.ddt_resolver.specs.Order.{IsStateInOrder}
use Rattle.ddt_resolver.specs.State.{State, moved, reply_timeout_ms}
use Rattle.ddt_loop.specs.Requesters.{opening_desk}
use Rattle.ddt_loop.specs.Polls.{polled}
use Rattle.ddt_loop.specs.Runs.{heard_of}
use Rattle.ddt_daemon.specs.Resolving.{Resolving}
use Rattle.ddt_daemon.specs.Runs.{IsOnward, HasServed, begins, round, tick, hastening, resending, forgetting, waiting, renewal}
use Rattle.ddt_daemon.specs.Spelled.{IsSpelledAs}
use Rattle.ddt_laws.specs.PositiveEnds.{finished, ended_in_round}

-- ---- the premise

-- A reply that comes before the deadline, from the server to which a pending lookup sent its last request, says what a
-- register says there of its identifier that was in force at some moment since that request.
abbrev pub IsReplySince : (ℕ → Register) → State → Locator → List ℕ → Type 0
IsReplySince in_force s source bytes =
    (t : ℕ) (l : Pending) (rec : ReferralRecord) → IsBeforeDeadline s source bytes t l rec
    → (at : ℕ) × (l.deadline ≤ at + reply_timeout_ms) × (at ≤ s.known.time)
    × (rec ≡ says (in_force at) source (xeid_path l.x))

-- so it is with the packet of a round, in the one spelling of what it says
abbrev pub IsRoundSince : (ℕ → Register) → Locator → ℕ → State → List Call → Type 0
IsRoundSince in_force me now s near =
    (p : Packet) (bytes : List ℕ) (rest : List Call) (plain : Option (List ℕ))
    → near ≡ polled me (Ok (Some p)) bytes ∷ rest → p.port ≡ control_port → IsSpelledAs s bytes plain
    → IsReplySince in_force (moved now s) p.from (heard_of bytes plain)

-- and in each round of a run, where a register is in force at each moment
abbrev pub AreRepliesSince : (in_force : ℕ → Register) (me : Locator) {may_begin : State → Type 0} {start : Resolving}
    {calls onward : List Call} {w : Resolving} → HasServed may_begin me start calls onward w → Type 0
AreRepliesSince in_force me begins = Unit {0}
AreRepliesSince in_force me (round {w = w} settings now near far new so_far le is) =
    AreRepliesSince in_force me so_far × IsRoundSince in_force me now w.running.state near
AreRepliesSince in_force me (tick now near far new so_far le is) = AreRepliesSince in_force me so_far
AreRepliesSince in_force me (hastening now nonce near far new so_far le is) = AreRepliesSince in_force me so_far
AreRepliesSince in_force me (resending nonce near so_far is) = AreRepliesSince in_force me so_far
AreRepliesSince in_force me (forgetting p so_far) = AreRepliesSince in_force me so_far
AreRepliesSince in_force me (waiting now so_far le) = AreRepliesSince in_force me so_far
AreRepliesSince in_force me (renewal new so_far may later) = AreRepliesSince in_force me so_far

-- ---- the moments of a lookup

-- the resolver's time in a step at a moment
abbrev pub time_at : ℕ → Resolving → ℕ
time_at now w = (moved now w.running.state).known.time

-- the time at which the lookup of a ticket began: that of the step in which the ticket's number was given out
abbrev pub begun_at : {may_begin : State → Type 0} {me : Locator} {start : Resolving} {calls onward : List Call}
    {w : Resolving} → HasServed may_begin me start calls onward w → ℕ → ℕ
begun_at begins t = 0
begun_at (round {w = w} settings now near far new so_far le is) t =
    if nat_lt t w.running.state.next then begun_at so_far t else time_at now w
begun_at (tick {w = w} now near far new so_far le is) t =
    if nat_lt t w.running.state.next then begun_at so_far t else time_at now w
begun_at (hastening {w = w} now nonce near far new so_far le is) t =
    if nat_lt t w.running.state.next then begun_at so_far t else time_at now w
begun_at (resending nonce near so_far is) t = begun_at so_far t
begun_at (forgetting p so_far) t = begun_at so_far t
begun_at (waiting now so_far le) t = begun_at so_far t
begun_at (renewal new so_far may later) t = begun_at so_far t

-- ---- the ends

-- an outcome that says the same of another prefix
abbrev pub said_of : List ℕ → Outcome → Outcome
said_of zone (Registered p servers) = Registered zone servers
said_of zone (NotRegistered p servers) = NotRegistered zone servers
said_of zone (Hole p) = Hole zone

-- An outcome is true of an identifier by a register. `assigned`: it is what the register assigns. `cut`: it says the
-- same of a zone inside that prefix, around the identifier: a reply that reached beyond its zone was cut to that.
pub data IsTrueOf (r : Register) (x : List ℕ) (o : Outcome) : Type 0 where
  assigned : o ≡ assignment r x → IsTrueOf r x o
  cut : (zone : List ℕ) → IsTrue (covers (record_of (assignment r x)).prefix zone) → IsTrue (covers zone x)
      → o ≡ said_of zone (assignment r x) → IsTrueOf r x o

-- by one that was in force at a moment between these two
abbrev pub WasTrue : (ℕ → Register) → ℕ → ℕ → List ℕ → Outcome → Type 0
WasTrue in_force since until x o = (at : ℕ) × (since ≤ at) × (at ≤ until) × IsTrueOf (in_force at) x o

-- an outcome was true of the identifier of a request; without one the lookup gave up
abbrev pub EndWasTrue : (ℕ → Register) → ℕ → ℕ → Result Outcome Why → ItrRequest → Type 0
EndWasTrue in_force since until (Ok o) q = WasTrue in_force since until (xeid_path q.xeid) o
EndWasTrue in_force since until (Err why) q = Unit {0}

-- each lookup that has ended in a run did so with an outcome that was true, at a moment between its beginning and its
-- end, of the identifier of each request that waited for it
abbrev pub EndsWereTrue : (in_force : ℕ → Register) {may_begin : State → Type 0} {me : Locator} {start : Resolving}
    {calls onward : List Call} {w : Resolving} → HasServed may_begin me start calls onward w → Type 0
EndsWereTrue in_force begins = Unit {0}
EndsWereTrue in_force (round {w = w} settings now near far new so_far le is) =
    EndsWereTrue in_force so_far
    × All (λ f. All (EndWasTrue in_force (begun_at so_far f.ticket) (time_at now w) f.end) f.requests)
    (ended_in_round is)
EndsWereTrue in_force (tick {w = w} now near far new so_far le is) =
    EndsWereTrue in_force so_far
    × All (λ f. All (EndWasTrue in_force (begun_at so_far f.ticket) (time_at now w) f.end) f.requests)
    (finished (λ e by_. by_.request) w.kept is.ended is.ends)
EndsWereTrue in_force (hastening {w = w} now nonce near far new so_far le is) =
    EndsWereTrue in_force so_far
    × All (λ f. All (EndWasTrue in_force (begun_at so_far f.ticket) (time_at now w) f.end) f.requests)
    (finished (λ e by_. by_.request) w.kept is.ended is.ends)
EndsWereTrue in_force (resending nonce near so_far is) = EndsWereTrue in_force so_far
EndsWereTrue in_force (forgetting p so_far) = EndsWereTrue in_force so_far
EndsWereTrue in_force (waiting now so_far le) = EndsWereTrue in_force so_far
EndsWereTrue in_force (renewal new so_far may later) = EndsWereTrue in_force so_far

-- ---- the requests that go on

-- A request of an ITR goes on, its bit D set, to one of the servers that a register assigned to its identifier, as
-- registered, which was in force less than 2,000 milliseconds before.
pub record WentToAssigned (in_force : ℕ → Register) (me : Locator) (time : ℕ) (call : Call) : Type 0 where
  pub onward : IsOnward me call
  pub moment : ℕ
  pub before : moment ≤ time
  pub of_late : time < moment + reply_timeout_ms
  pub prefix : List ℕ
  pub servers : List Locator
  pub registered : assignment (in_force moment) (xeid_path onward.request.xeid) ≡ Registered prefix servers
  pub among_them : IsTrue (lists servers onward.to)

-- so it is with each that goes on in a run
abbrev pub RequestsWereAssigned : (in_force : ℕ → Register) (me : Locator) {may_begin : State → Type 0}
    {start : Resolving} {calls onward : List Call} {w : Resolving} → HasServed may_begin me start calls onward w
    → Type 0
RequestsWereAssigned in_force me begins = Unit {0}
RequestsWereAssigned in_force me (round {w = w} settings now near far new so_far le is) =
    RequestsWereAssigned in_force me so_far × All (WentToAssigned in_force me (time_at now w)) far
RequestsWereAssigned in_force me (tick {w = w} now near far new so_far le is) =
    RequestsWereAssigned in_force me so_far × All (WentToAssigned in_force me (time_at now w)) far
RequestsWereAssigned in_force me (hastening {w = w} now nonce near far new so_far le is) =
    RequestsWereAssigned in_force me so_far × All (WentToAssigned in_force me (time_at now w)) far
RequestsWereAssigned in_force me (resending nonce near so_far is) = RequestsWereAssigned in_force me so_far
RequestsWereAssigned in_force me (forgetting p so_far) = RequestsWereAssigned in_force me so_far
RequestsWereAssigned in_force me (waiting now so_far le) = RequestsWereAssigned in_force me so_far
RequestsWereAssigned in_force me (renewal new so_far may later) = RequestsWereAssigned in_force me so_far

-- ---- the law

-- a resolver in order, with nothing pending
pub record IsAtRest (s : State) : Type 0 where
  pub order : IsStateInOrder s
  pub none_pending : (t : ℕ) → get s.pending t ≡ None

-- a Map-Resolver with nothing pending, for which no request waits
pub record ServesNobody (start : Resolving) : Type 0 where
  pub at_rest : IsAtRest start.running.state
  pub nobody : start.running.desk ≡ opening_desk []
  pub no_request : start.kept ≡ []

-- Accepted registers are in force, one at each moment, and replies say what one says that was in force between request
-- and reply. Then each lookup that ends with an outcome does so with one that was true at a moment since it began, and
-- each request that goes on goes to a server that was assigned of late.
abbrev pub LookupsEndTruly : Type 0
LookupsEndTruly =
    (in_force : ℕ → Register) (me : Locator) (start : Resolving) (calls onward : List Call) (w : Resolving)
    → ((at : ℕ) → IsAccepted (in_force at)) → ServesNobody start → (run : HasServed IsAtRest me start calls onward w)
    → AreRepliesSince in_force me run → EndsWereTrue in_force run × RequestsWereAssigned in_force me run
