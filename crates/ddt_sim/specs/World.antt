-- A resolver among servers, and what each step of a schedule does there (RFC 8111, section 7.3).
use Rattle.std.specs.Prelude.{ℕ, ◌≡◌, ◌⊎◌, ◌+◌, ◌<◌, ◌≤◌, min, true, false, List, [], ◌∷◌, ◌++◌, length, slice_get, Contains, Option, None, Some, Ok, Err}
use Rattle.std.specs.Option.{option_map_or}
use Rattle.ddt_path.specs.declared.locator.Locator.{Locator}
use Rattle.ddt_path.specs.declared.xeid.Xeid.{Xeid}
use Rattle.ddt_register.specs.declared.register.Register.{Register}
use Rattle.ddt_ecm.specs.Request.{Message}
use Rattle.ddt_node.specs.Server.{IsDdtRequest}
use Rattle.ddt_cache.specs.Moment.{last_moment}
use Rattle.ddt_resolver.specs.declared.results.Outgoing.{Outgoing}
use Rattle.ddt_resolver.specs.declared.step.Reply.{Reply}
use Rattle.ddt_resolver.specs.declared.step.Reply.TheVariants.{ToAsk, ToDatagram, ToTick}
use Rattle.ddt_resolver.specs.declared.step.Progress.{Progress}
use Rattle.ddt_resolver.specs.declared.step.Progress.TheVariants.{Stays, Sends, Ends}
use Rattle.ddt_resolver.specs.State.{State, moved}
use Rattle.ddt_resolver.specs.Step as resolver
use Rattle.ddt_resolver.specs.Step.{ResolverCall, Hear, Wants, progress_of}
use Rattle.ddt_sim.specs.declared.schedule.Step.{Step}
use Rattle.ddt_sim.specs.declared.schedule.Step.TheVariants.{Ask, Deliver, Pass, Tick, Replace}
use Rattle.ddt_sim.specs.declared.schedule.Event.{Event}
use Rattle.ddt_sim.specs.declared.schedule.Event.TheVariants.{Asked, Refused, Replied, Silent, Heard, Passed, Ticked, Replaced, Nothing}
use Rattle.ddt_sim.specs.declared.schedule.Datagram.{Datagram}
use Rattle.ddt_sim.specs.Honest.{IsServer, IsHonestReply}
use Rattle.ddt_sim.specs.Waiting.{CanBeAsked}

-- The moment; the number of the servers in force; all datagrams in the order of sending; and the resolver. A datagram's
-- number is its place.
pub record World : Type 0 where
  pub moment : ℕ
  pub member : ℕ
  pub sent : List Datagram
  pub state : State

-- a world of these parts: the moment in milliseconds, the number of the servers in force, the datagrams, the resolver
abbrev pub world : ℕ → ℕ → List Datagram → State → World
world moment_ member_ sent_ state_ =
    record { moment = moment_; member = member_; sent = sent_; state = state_ }

-- The servers of a run, one member for each number below the count: for which registers a member answers honestly, and
-- for which it gives no reply at a locator that is no server's.
pub record Members : Type 1 where
  pub count : ℕ
  pub honest : ℕ → Register → Type 0
  pub silent : ℕ → Register → Type 0

-- a fact of the servers at a place of a list
abbrev pub at_place : {S : Type 0} → (S → Register → Type 0) → List S → ℕ → Register → Type 0
at_place {S} fact servers k r = (own : S) × (slice_get servers k ≡ Some own) × fact own r

-- the servers of a list as members: the number of each is its place, from 0, and the first are in force at the start
abbrev pub members : {S : Type 0} → (S → Register → Type 0) → (S → Register → Type 0) → List S → Members
members are_honest are_silent servers =
    record { count = length servers; honest = at_place are_honest servers; silent = at_place are_silent servers }

-- each of them is what it was
abbrev pub StillAre : {S : Type 0} → (S → Register → Type 0) → List S → List S → Type 0
StillAre {S} fact servers later_ =
    (length later_ ≡ length servers)
    × ((k : ℕ) (r : Register) → at_place fact servers k r → at_place fact later_ k r)

-- whoever has none of these numbers is as before
abbrev pub OthersStay : {S : Type 0} → (ℕ → Type 0) → List S → List S → Type 0
OthersStay {S} these servers later_ =
    (k : ℕ) → (these k → ⊥) → slice_get later_ k ≡ slice_get servers k

-- the members that come into force in a run of these steps: the first, and each that a Replace names
abbrev pub ComesIntoForce : List Step → ℕ → Type 0
ComesIntoForce steps k = (k ≡ 0) ⊎ Contains steps (Replace k)

-- What may come back for a datagram to a locator: at a server's, for a DDT Map-Request, what each register says there
-- that the servers are honest for; elsewhere nothing, where they are silent; anything where neither is known.
pub record MayReply (are_honest are_silent : Register → Type 0) (to : Locator) (bytes : List ℕ)
    (reply : Option (List ℕ)) : Type 0 where
  pub honestly : (r : Register) (m : Message) → are_honest r → IsServer r to → IsDdtRequest bytes m
      → IsHonestReply r to m reply
  pub silently : (r : Register) → are_silent r → (IsServer r to → ⊥) → reply ≡ None

-- what the resolver answered at an event, if it had a part in it
abbrev pub reply_at : Event → Option Reply
reply_at (Asked a) = Some (ToAsk (Ok a))
reply_at (Refused why) = Some (ToAsk (Err why))
reply_at (Heard h) = Some (ToDatagram h)
reply_at (Ticked h) = Some (ToTick h)
reply_at _ = None

-- what an event makes of the pending lookups: nothing, where the resolver has no part in it
abbrev pub progress_at : Event → Progress
progress_at event = option_map_or progress_of (reply_at event) Stays

-- the request that goes out
abbrev pub request_in : Progress → Option Outgoing
request_in (Sends t d) = Some d
request_in Stays = None
request_in (Ends t end) = None

-- the request that the resolver sends at an event
abbrev pub request_at : Event → Option Outgoing
request_at event = request_in (progress_at event)

-- as a datagram from the resolver's address
abbrev pub request_from : Locator → Outgoing → Datagram
request_from me d = record { source = me; to = d.to; is_reply = false; bytes = d.bytes }

-- the datagrams that a step of the resolver adds: its request, if it sends one
abbrev pub sent_for : Locator → Option Outgoing → List Datagram
sent_for me (Some d) = request_from me d ∷ []
sent_for me None = []

-- a server's reply to a datagram
abbrev pub reply_to : Datagram → List ℕ → Datagram
reply_to d bytes_ = record { source = d.to; to = d.source; is_reply = true; bytes = bytes_ }

-- the event that tells what the resolver answered
abbrev pub event_of : Reply → Event
event_of (ToAsk (Ok a)) = Asked a
event_of (ToAsk (Err why)) = Refused why
event_of (ToDatagram h) = Heard h
event_of (ToTick t) = Ticked t

-- How a step calls the resolver: for an ask of an identifier, for a reply that was sent, for a tick.
pub data CallsResolver (w : World) (step : Step) (call : ResolverCall) : Type 0 where
  asked : (x : Xeid) → CanBeAsked x w.state.me → step ≡ Ask x → call ≡ resolver.Ask x → CallsResolver w step call
  heard : (k : ℕ) (d : Datagram) → step ≡ Deliver k → slice_get w.sent k ≡ Some d → d.is_reply ≡ true
      → call ≡ Hear d.source d.bytes → CallsResolver w step call
  ticked : step ≡ Tick → call ≡ resolver.Tick → CallsResolver w step call

-- what a step calls the resolver for, if it calls it
abbrev pub call_at : List Datagram → Step → ResolverCall
call_at sent (Ask x) = resolver.Ask x
call_at sent (Deliver k) = option_map_or (λ (d : Datagram). Hear d.source d.bytes) (slice_get sent k) resolver.Tick
call_at sent _ = resolver.Tick

-- A request is handed to servers: they reply, and the reply is one datagram more, or they give no reply.
pub data Serves (are_honest are_silent : Register → Type 0) (sent : List Datagram) (k : ℕ) (more : List Datagram)
    (event : Event) : Type 0 where
  by_reply : (d : Datagram) (bytes : List ℕ) → slice_get sent k ≡ Some d → d.is_reply ≡ false
      → MayReply are_honest are_silent d.to d.bytes (Some bytes) → event ≡ Replied (length sent)
      → more ≡ sent ++ reply_to d bytes ∷ [] → Serves are_honest are_silent sent k more event
  by_silence : (d : Datagram) → slice_get sent k ≡ Some d → d.is_reply ≡ false
      → MayReply are_honest are_silent d.to d.bytes None → event ≡ Silent → more ≡ sent
      → Serves are_honest are_silent sent k more event

-- the world after a step of the resolver, which may have sent a request
abbrev pub after : World → State → Event → World
after w s event = record w { state = s; sent = w.sent ++ sent_for w.state.me (request_at event) }

-- a step of the resolver at the moment
pub record Resolves (w : World) (step : Step) (event : Event) (new : World) : Type 0 where
  pub call : ResolverCall
  pub reply : Reply
  pub state : State
  pub calls : CallsResolver w step call
  pub does : resolver.Step (moved w.moment w.state) call state reply
  pub tells : event ≡ event_of reply
  pub goes_on : new ≡ after w state event

-- the moment so many milliseconds later; time stops at the last moment
abbrev pub later : ℕ → ℕ → ℕ
later moment millis = min (moment + millis) last_moment

-- The step. `resolves`: the resolver is asked, hears a reply, or ticks. `serves`: a request is handed to the servers in
-- force. `not_sent`: no datagram has this number yet. `passes`: the moment moves, and the resolver's time follows at
-- its next call. `replaces`: other servers come into force. `no_member`: no servers have this number.
pub data WorldStep (servers : Members) (w : World) (step : Step) (event : Event) (new : World) : Type 0 where
  resolves : Resolves w step event new → WorldStep servers w step event new
  serves : (k : ℕ) (more : List Datagram) → step ≡ Deliver k
      → Serves (servers.honest w.member) (servers.silent w.member) w.sent k more event
      → new ≡ record w { sent = more } → WorldStep servers w step event new
  not_sent : (k : ℕ) → step ≡ Deliver k → length w.sent ≤ k → event ≡ Nothing → new ≡ w
      → WorldStep servers w step event new
  passes : (millis : ℕ) → step ≡ Pass millis → event ≡ Passed (later w.moment millis)
      → new ≡ record w { moment = later w.moment millis } → WorldStep servers w step event new
  replaces : (k : ℕ) → step ≡ Replace k → k < servers.count → event ≡ Replaced k → new ≡ record w { member = k }
      → WorldStep servers w step event new
  no_member : (k : ℕ) → step ≡ Replace k → servers.count ≤ k → event ≡ Nothing → new ≡ w
      → WorldStep servers w step event new

-- a step calls the resolver, which wants memory: nothing is done but for its time
pub record WantsMemory (w : World) (step : Step) (s : State) : Type 0 where
  pub call : ResolverCall
  pub calls : CallsResolver w step call
  pub wants : Wants (moved w.moment w.state) call
  pub goes_on : s ≡ moved w.moment w.state

-- What a step leaves of the resolver that runs out of memory. `undone`: nothing is done. `wanting`: the resolver itself
-- wants memory. `untold`: all is done, and isn't told.
pub data Stops (w : World) (step : Step) (s : State) : Type 0 where
  undone : s ≡ w.state → Stops w step s
  wanting : WantsMemory w step s → Stops w step s
  untold : (event : Event) (new : World) → Resolves w step event new → s ≡ new.state → Stops w step s
