-- The rounds of a daemon: of a server at one of its sockets, and of a resolver between ITRs, servers and Map-Servers.
use Rattle.std.specs.Prelude.{Bool, Result, IfSome, IfNone, IsOk, is_some, ℕ, ◌≡◌, ◌≢◌, ◌⊎◌, List, [], ◌∷◌, ◌++◌, Option, Some, None, Ok, Err, true, false, ◌+◌}
use Rattle.ddt_path.specs.declared.locator.Locator.{Locator}
use Rattle.ddt_sockets.specs.declared.wire_calls.Call.{Call}
use Rattle.ddt_sockets.specs.declared.wire_calls.Call.TheVariants.{Received, Tried}
use Rattle.ddt_sockets.specs.declared.wire_calls.NetFault.{NetFault}
use Rattle.ddt_sockets.specs.declared.wire_calls.Packet.{Packet}
use Rattle.ddt_resolver.specs.declared.itr_messages.ItrRequest.{ItrRequest}
use Rattle.ddt_resolver.specs.declared.results.Ignored.{Ignored}
use Rattle.ddt_resolver.specs.Step.{Tick}
use Rattle.ddt_loop.specs.declared.packet_outcome.Ended.{Ended as End}
use Rattle.ddt_loop.specs.declared.requester.Requester.TheVariants.{Itr}
use Rattle.ddt_loop.specs.Requesters.{with_requester}
use Rattle.ddt_loop.specs.Acts.{Running, running, AsksForItr, IsToldItr, HearsOrTicks, Hastens}
use Rattle.ddt_loop.specs.Ends.{EndsBy, EndsByHaste, waiting_itrs}
use Rattle.ddt_loop.specs.Ignoring.{IsIgnored}
use Rattle.ddt_ecm.specs.UdpHeader.{control_port}
use Rattle.ddt_path.specs.declared.record.Outcome.{Outcome}
use Rattle.ddt_path.specs.declared.record.ReferralRecord.{ReferralRecord}
use Rattle.ddt_resolver.specs.declared.pending.Pending.{Pending}
use Rattle.ddt_resolver.specs.State.{State, moved}
use Rattle.ddt_foreign.specs.Plain.{plain_in}
use Rattle.ddt_resolver.specs.Within.{IsCut, IsWide}
use Rattle.ddt_loop.specs.Runs.{heard_of, MayEndBy, EndsByReply}
use Rattle.ddt_wire.specs.declared.message_type.MessageType.TheVariants.{Encapsulated}
use Rattle.ddt_wire.specs.MessageType.{is_of}
use Rattle.ddt_loop.specs.Polls.{polled, IsPacketTaken}
use Rattle.ddt_config.specs.declared.settings.resolver_settings.Settings.{Settings}
use Rattle.ddt_daemon.specs.declared.itr_requests.WaitingRequest.{WaitingRequest}
use Rattle.ddt_daemon.specs.declared.admission.Lookup.TheVariants.{Shared, Own}
use Rattle.ddt_daemon.specs.declared.admission.Waiter.{Waiter}
use Rattle.ddt_daemon.specs.declared.admission.Dropped.{Dropped}
use Rattle.ddt_daemon.specs.declared.counts.ResolverCounts.{ResolverCounts}
use Rattle.ddt_daemon.specs.declared.recent_requests.Recent.{Recent}
use Rattle.ddt_daemon.specs.Recent.{coming, IsNew}
use Rattle.ddt_daemon.specs.Resolving.{Resolving, resolving, at_moment}
use Rattle.ddt_daemon.specs.Admitted.{Answers, IsAdmitted, IsDropped, HasLookup}
use Rattle.ddt_daemon.specs.Counted.{with_dropped, with_lookup, with_shared, with_cut, with_why}
use Rattle.ddt_daemon.specs.Goes.{Follows, with_end}
use Rattle.ddt_daemon.specs.Spelled.{IsAskedFor, IsSpelledAs}

-- time has passed, or hasn't: nothing else changes
abbrev pub HasWaited : ℕ → Running → Running → Type 0
HasWaited now w v = (v ≡ w) ⊎ (v ≡ running (moved now w.state) w.desk)

-- A request of an ITR that came from there waits, for a lookup that has begun at these servers, or for that of another.
pub record WaitsAs (begins_ : Option (List Locator)) (from : Locator) (bytes : List ℕ) (q : ItrRequest) (k : WaitingRequest) : Type
    0 where
  pub begins : k.begins ≡ begins_
  pub request : k.request ≡ q
  pub source : k.from ≡ from
  pub bytes_are : k.bytes ≡ bytes

-- What is kept of a request whose lookup begins at these servers. `at_once`: nothing, where it is answered at once or
-- refused, and nobody waits for it. `waits`: the request, where its ITR waits for the lookup that has started.
pub data KeepsAsked (servers : List Locator) (from : Locator) (bytes : List ℕ) (q : ItrRequest) (w new : Resolving) : Type
    0 where
  at_once : new.running.desk ≡ w.running.desk → new.kept ≡ w.kept → new.counts ≡ w.counts → new.recent ≡ w.recent
      → KeepsAsked servers from bytes q w new
  waits : (k : WaitingRequest) → WaitsAs (Some servers) from bytes q k
      → new.running.desk ≡ with_requester w.running.desk k.ticket (Itr q)
      → new.kept ≡ w.kept ++ k ∷ [] → new.counts ≡ with_lookup w.counts → new.recent ≡ w.recent
      → KeepsAsked servers from bytes q w new

-- What becomes of a request that waits. `shares`: it waits for the lookup of a ticket. `asks`: it is asked for.
pub data IsAsked (me : Locator) (now : ℕ) (a : Waiter) (w : Resolving) (near : List Call) (new : Resolving) : Type 0
  where
    shares : (t : ℕ) (k : WaitingRequest) → a.lookup ≡ Shared t → k.ticket ≡ t → WaitsAs None a.from a.bytes a.request k
        → near ≡ [] → new ≡ resolving w.running (w.kept ++ k ∷ []) (with_shared w.counts) w.recent
        → IsAsked me now a w near new
    asks : (servers : List Locator) → a.lookup ≡ Own servers → AsksForItr me now a.request w.running near new.running
        → KeepsAsked servers a.from a.bytes a.request w new → IsAsked me now a w near new

-- the same ITRs wait as before: the lookup of none has ended
abbrev pub StillWait : Running → Running → Type 0
StillWait w new = waiting_itrs new.desk.waiting ≡ waiting_itrs w.desk.waiting

-- What a datagram of these bytes from UDP port 4342 does, as it is heard. One that the resolver ignores is counted by
-- why.
pub record HearsReply (me : Locator) (now : ℕ) (p : Packet) (heard : List ℕ) (w : Resolving) (near far : List Call)
    (new : Resolving) : Type 0 where
  pub tries : List Call
  pub taken : IsPacketTaken me now p heard w.running tries new.running
  pub ended : Option End
  pub ends : MayEndBy (EndsByReply now p heard w.running new.running) ended
  pub no_end : IfNone ended (StillWait w.running new.running)
  pub tells : List Call
  pub follows : Follows me (Some p.from) ended w.kept tells far new.kept
  pub calls_are : near ≡ tries ++ tells
  pub ignored : Option Ignored
  pub is_ignored : IfSome ignored (IsIgnored now p heard w.running)
  pub is_used : IfNone ignored ((why : Ignored) → IsIgnored now p heard w.running why → ⊥)
  pub counts : new.counts ≡ with_end (with_why w.counts ignored) ended
  pub recent : new.recent ≡ w.recent

-- a datagram of this source is a reply that reaches beyond the zone of its server, so that it takes memory to cut it
abbrev pub ReachesBeyond : State → Locator → List ℕ → Type 0
ReachesBeyond s source bytes =
    (l : Pending) × (rec : ReferralRecord) × (zone : List ℕ) × IsWide s source bytes l rec zone

-- What is done with a datagram in the one spelling. `whole`: it is heard as it is. `cut`: it reaches beyond the zone of
-- its server, and is heard as if it said the same of that zone alone. `lost`: it reaches beyond it too, and there is no
-- memory to cut it.
pub data HearsSpelled (me : Locator) (now : ℕ) (p : Packet) (bytes : List ℕ) (w : Resolving) (near far : List Call)
    (new : Resolving) : Type 0 where
  whole : IsCut w.running.state p.from bytes None → HearsReply me now p bytes w near far new
      → HearsSpelled me now p bytes w near far new
  cut : (heard : List ℕ) → IsCut w.running.state p.from bytes (Some heard)
      → HearsReply me now p heard (record w { counts = with_cut w.counts }) near far new
      → HearsSpelled me now p bytes w near far new
  lost : ReachesBeyond w.running.state p.from bytes → near ≡ [] → far ≡ [] → new ≡ w
      → HearsSpelled me now p bytes w near far new

-- What is done with a datagram that is no Encapsulated Control Message. `other_port`: it isn't from UDP port 4342, and
-- dropped. `spelled`: it is heard in the one spelling. `lost_whole`: its nonce asks for an identifier, for
-- which something is taken of it, and there is no memory to spell that.
pub data IsHeard (me : Locator) (now : ℕ) (p : Packet) (bytes : List ℕ) (w : Resolving) (near far : List Call)
    (new : Resolving) : Type 0 where
  other_port : p.port ≢ control_port → near ≡ [] → far ≡ [] → new ≡ w → IsHeard me now p bytes w near far new
  spelled : (plain : Option (List ℕ)) → p.port ≡ control_port → IsSpelledAs w.running.state bytes plain
      → HearsSpelled me now p (heard_of bytes plain) w near far new → IsHeard me now p bytes w near far new
  lost_whole : (t : ℕ) (l : Pending) → p.port ≡ control_port → IsAskedFor w.running.state bytes t l
      → IsOk (plain_in l.x bytes) → near ≡ [] → far ≡ [] → new ≡ w → IsHeard me now p bytes w near far new

-- What is done with a packet. `dropped`: an Encapsulated Control Message is dropped, and counted by why. `answered`: it
-- is a request whose answer is remembered, and the ITR is told. `shared`: it is a request, and shares the lookup that
-- an ITR waits for. `asked`: it is a request, and asked for; where it waits, the servers are kept at which its lookup
-- begins, so that it counts among those of its referral set. Only a request that waits is remembered lately, and only
-- one that doesn't come back waits. `heard`: any other datagram.
pub data IsHandled (settings : Settings) (me : Locator) (now : ℕ) (p : Packet) (bytes : List ℕ) (w : Resolving)
    (near far : List Call) (new : Resolving) : Type 0 where
  dropped : (why : Dropped) (v : Running) → is_of Encapsulated bytes ≡ true
      → IsDropped settings now w p.from bytes why → HasWaited now w.running v → near ≡ [] → far ≡ []
      → new ≡ resolving v w.kept (with_dropped w.counts why) w.recent
      → IsHandled settings me now p bytes w near far new
  answered : (q : ItrRequest) (o : Outcome) → is_of Encapsulated bytes ≡ true
      → IsAdmitted settings w.kept (at_moment now w.running) p.from bytes q
      → Answers (moved now w.running.state) q.xeid o → IsToldItr me o q near → far ≡ []
      → new ≡ resolving (at_moment now w.running) w.kept w.counts w.recent
      → IsHandled settings me now p bytes w near far new
  shared : (q : ItrRequest) (k : WaitingRequest) (recent : List (Option Recent)) → is_of Encapsulated bytes ≡ true
      → IsAdmitted settings w.kept (at_moment now w.running) p.from bytes q → WaitsAs None p.from bytes q k
      → HasLookup w.kept (at_moment now w.running) p.from q.xeid (Shared k.ticket)
      → IsNew w.recent (coming q p.from now) recent → near ≡ [] → far ≡ []
      → new ≡ resolving (at_moment now w.running) (w.kept ++ k ∷ []) (with_shared w.counts) recent
      → IsHandled settings me now p bytes w near far new
  asked : (q : ItrRequest) (servers : List Locator) (recent : List (Option Recent)) → is_of Encapsulated bytes ≡ true
      → IsAdmitted settings w.kept (at_moment now w.running) p.from bytes q
      → HasLookup w.kept (at_moment now w.running) p.from q.xeid (Own servers)
      → IsNew w.recent (coming q p.from now) recent
      → AsksForItr me now q (at_moment now w.running) near new.running → far ≡ []
      → KeepsAsked servers p.from bytes q (resolving (at_moment now w.running) w.kept w.counts recent) new
      → IsHandled settings me now p bytes w near far new
  heard : is_of Encapsulated bytes ≡ false → IsHeard me now p bytes w near far new
      → IsHandled settings me now p bytes w near far new

-- whether an answer of `receive` has a packet, or one was lost
abbrev pub gives_something : Result (Option Packet) NetFault → Bool
gives_something (Ok packet) = is_some packet
gives_something (Err fault) = true

-- whether the first of these calls is a poll at which something was there, or was lost
abbrev pub was_there : List Call → Bool
was_there [] = false
was_there (Received at room answer bytes ∷ calls) = gives_something answer
was_there (Tried at to port bytes answer ∷ calls) = false

-- A round: the near wires are polled once. No packet comes, `receive` fails, or a packet is handled.
pub data IsRound (settings : Settings) (me : Locator) (now : ℕ) (w : Resolving) (near far : List Call)
    (new : Resolving) : Type 0 where
  no_packet : near ≡ polled me (Ok None) [] ∷ [] → far ≡ [] → new ≡ w → IsRound settings me now w near far new
  failed : (fault : NetFault) → near ≡ polled me (Err fault) [] ∷ [] → far ≡ [] → new ≡ w
      → IsRound settings me now w near far new
  came : (p : Packet) (bytes : List ℕ) (tries : List Call) → near ≡ polled me (Ok (Some p)) bytes ∷ tries
      → IsHandled settings me now p bytes w tries far new → IsRound settings me now w near far new

-- A tick: a lookup that is due goes on or ends, over the near wires. Nothing goes on over the far ones.
pub record IsTick (me : Locator) (now : ℕ) (w : Resolving) (near far : List Call) (new : Resolving) : Type 0 where
  pub tries : List Call
  pub resolves : HearsOrTicks me now Tick w.running tries new.running
  pub ended : Option End
  pub ends : MayEndBy (EndsBy Tick (moved now w.running.state) new.running.state w.running.desk.waiting
      new.running.desk.waiting) ended
  pub no_end : IfNone ended (StillWait w.running new.running)
  pub tells : List Call
  pub follows : Follows me None ended w.kept tells far new.kept
  pub calls_are : near ≡ tries ++ tells
  pub counts : new.counts ≡ with_end w.counts ended
  pub recent : new.recent ≡ w.recent

-- The lookup whose last request has this nonce is hastened: it goes on or ends as by a tick.
pub record IsHastened (me : Locator) (now nonce : ℕ) (w : Resolving) (near far : List Call) (new : Resolving) : Type 0
  where
    pub tries : List Call
    pub hastens : Hastens me now nonce w.running tries new.running
    pub ended : Option End
    pub ends : MayEndBy (EndsByHaste nonce (moved now w.running.state) new.running.state w.running.desk.waiting
        new.running.desk.waiting) ended
    pub no_end : IfNone ended (StillWait w.running new.running)
    pub tells : List Call
    pub follows : Follows me None ended w.kept tells far new.kept
    pub calls_are : near ≡ tries ++ tells
    pub counts : new.counts ≡ with_end w.counts ended
    pub recent : new.recent ≡ w.recent

-- a number of ticks, one after the other
pub data AreTicks (me : Locator) (now : ℕ) (w : Resolving) : ℕ → List Call → List Call → Resolving → Type 0 where
  no_tick : AreTicks me now w 0 [] [] w
  one_tick : {count : ℕ} {near far : List Call} {v : Resolving} (more on : List Call) (new : Resolving)
      → AreTicks me now w count near far v → IsTick me now v more on new
      → AreTicks me now w (count + 1) (near ++ more) (far ++ on) new
