-- The requests of a lookup since it last turned to a set of servers, and which of them got no reply in time (RFC 8111,
-- section 7.3).
use Rattle.std.specs.Prelude.{ℕ, ◌≡◌, ◌+◌, ◌*◌, ◌/◌, ◌<◌, ◌≤◌, ◌==◌, if◌then◌else◌, false, List, [], ◌∷◌, length, get_or, slice_get, Some, Err}
use Rattle.std.specs.FinMap.{get}
use Rattle.ddt_path.specs.declared.locator.Locator.{Locator}
use Rattle.ddt_path.specs.declared.xeid.Xeid.{Xeid}
use Rattle.ddt_register.specs.declared.register.Register.{Register}
use Rattle.ddt_resolver.specs.declared.pending.Pending.{Pending}
use Rattle.ddt_resolver.specs.declared.results.Outgoing.{Outgoing}
use Rattle.ddt_resolver.specs.declared.results.Heard.{Heard as Hearing}
use Rattle.ddt_resolver.specs.declared.results.Why.TheVariants.{NoReply}
use Rattle.ddt_resolver.specs.declared.step.Progress.{Progress}
use Rattle.ddt_resolver.specs.declared.step.Progress.TheVariants as progress
use Rattle.ddt_resolver.specs.State.{State, request_bytes, reply_timeout_ms}
use Rattle.ddt_sim.specs.declared.schedule.Step.TheVariants.{Deliver}
use Rattle.ddt_sim.specs.declared.schedule.Event.{Event}
use Rattle.ddt_sim.specs.declared.schedule.Event.TheVariants.{Replied, Heard, Ticked}
use Rattle.ddt_sim.specs.declared.schedule.Datagram.{Datagram}
use Rattle.ddt_sim.specs.declared.schedule.Transcript.{Transcript}
use Rattle.ddt_sim.specs.declared.schedule.Step.{Step}
use Rattle.ddt_sim.specs.Sound.{IsSoundLookup}
use Rattle.ddt_sim.specs.World.{World, Members, progress_at}
use Rattle.ddt_sim.specs.History.{Line, Among}
use Rattle.ddt_sim.specs.Schedules.{Ends, AsksFor, EachLine}

-- an event sends a request for a ticket
abbrev pub Sends : Event → ℕ → Type 0
Sends event t = (d : Outgoing) × (progress_at event ≡ progress.Sends t d)

-- a request of a lookup: the datagram's number, and the moment of its sending
pub record Try : Type 0 where
  pub number : ℕ
  pub moment : ℕ

-- the number and the moment of what is sent in a world
abbrev pub try_in : World → Try
try_in w = record { number = length w.sent; moment = w.moment }

-- a line sends this try for a ticket
abbrev pub IsSentFor : ℕ → Try → Line → Type 0
IsSentFor t try line = Sends line.event t × (try ≡ try_in line.before)

-- by a line, a datagram of this number replies to that one
abbrev pub IsReplyBy : ℕ → ℕ → Line → Type 0
IsReplyBy reply number line = (line.step ≡ Deliver number) × (line.event ≡ Replied reply)

-- at a line, of this moment, the resolver hears the datagram of a number
abbrev pub IsHeardBy : ℕ → ℕ → Line → Type 0
IsHeardBy reply moment line =
    (line.step ≡ Deliver reply) × ((h : Hearing) × (line.event ≡ Heard h)) × (moment ≡ line.before.moment)

-- no reply to it was handed over before its deadline
abbrev pub IsUnanswered : List Line → Try → Type 0
IsUnanswered past try =
    (reply came : ℕ) → Among past (IsReplyBy reply try.number) → Among past (IsHeardBy reply came)
    → try.moment + reply_timeout_ms ≤ came

-- the request for x to a server
abbrev pub request_to : Locator → ℕ → Xeid → Locator → Datagram
request_to me nonce x to_ = record { source = me; to = to_; is_reply = false; bytes = request_bytes nonce x me }

-- A try was in vain: a request for x to a server, whose deadline has come, and no reply to it was handed over before.
pub record IsInVain (past : List Line) (w : World) (t : ℕ) (to : Locator) (x : Xeid) (try : Try) : Type 0 where
  pub sent : Among past (IsSentFor t try)
  pub nonce : ℕ
  pub request : slice_get w.sent try.number ≡ Some (request_to w.state.me nonce x to)
  pub over : try.moment + reply_timeout_ms ≤ w.moment
  pub unanswered : IsUnanswered past try

-- it was sent after the one before it
abbrev pub IsLater : Try → List Try → Type 0
IsLater try [] = Unit {0}
IsLater try (before ∷ earlier) = before.number < try.number

-- All these tries were in vain, the newest first: two at each of the servers, in their order.
abbrev pub AreInVain : List Line → World → ℕ → List Locator → Xeid → List Try → Type 0
AreInVain past w t servers x [] = Unit {0}
AreInVain past w t servers x (try ∷ earlier) =
    IsInVain past w t (get_or servers (length earlier / 2) w.state.me) x try × IsLater try earlier
    × AreInVain past w t servers x earlier

-- The tries that a request is added to: at a tick the earlier ones. An ask, or a reply that is followed, begins anew.
abbrev pub tries_before : Event → List Try → List Try
tries_before (Ticked h) earlier = earlier
tries_before _ earlier = []

-- the tries of a ticket: these, where a request is sent for it, and otherwise the earlier ones
abbrev pub tries_by : ℕ → Progress → List Try → List Try → List Try
tries_by t (progress.Sends u d) these earlier = if u == t then these else earlier
tries_by t progress.Stays these earlier = earlier
tries_by t (progress.Ends u end) these earlier = earlier

-- the tries of a ticket after one more event
abbrev pub tries_after : ℕ → Event → Try → List Try → List Try
tries_after t event this earlier = tries_by t (progress_at event) (this ∷ tries_before event earlier) earlier

-- all of them, since the lookup was asked or last followed a reply; the newest first
abbrev pub tries_of : ℕ → List Line → List Try
tries_of t [] = []
tries_of t (line ∷ past) = tries_after t line.event (try_in line.before) (tries_of t past)

-- A lookup was in vain: each of its servers, one at least, was asked twice since it turned to them, and none of these
-- requests had a reply in time.
pub record WasInVain (past : List Line) (w : World) (t : ℕ) : Type 0 where
  pub lookup : Pending
  pub is_pending : get w.state.pending t ≡ Some lookup
  pub its_ask : Among past (AsksFor t lookup.x)
  pub has_servers : 0 < length lookup.servers
  pub two_each : length (tries_of t past) ≡ 2 * length lookup.servers
  pub in_vain : AreInVain past w t lookup.servers lookup.x (tries_of t past)

-- A lookup had no reply: it was in vain, and its servers are those of a zone that covers its identifier.
pub record HasNoReply (r : Register) (past : List Line) (w : World) (t : ℕ) : Type 0 where
  pub vain : WasInVain past w t
  pub of_zone : IsSoundLookup r vain.lookup

-- A lookup gives up for want of a reply only where it had none.
abbrev pub IsRightNoReply : Register → List Line → Line → Type 0
IsRightNoReply r past line = (t : ℕ) → Ends line.event t (Err NoReply) → HasNoReply r past line.before t

-- A lookup gives up for want of a reply only where its servers are those of a zone that covers its identifier, each was
-- asked twice, and none of these requests had a reply within 2,000 milliseconds.
abbrev pub NoRepliesAreRight : Members → State → List Step → Transcript → State → Type 0
NoRepliesAreRight = EachLine IsRightNoReply
