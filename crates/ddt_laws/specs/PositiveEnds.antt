-- How the lookups of a Map-Resolver end, and where the requests of ITRs go on to (RFC 8111, sections 5, 7.2 and 7.3).
use Rattle.std.specs.Prelude.{ℕ, ◌≡◌, ◌==◌, ◌⊎◌, IsTrue, List, [], ◌∷◌, ◌++◌, All, map, Option, Some, None, Result, Ok, Err}
use Rattle.std.specs.List.{filter}
use Rattle.ddt_path.specs.declared.locator.Locator.{Locator}
use Rattle.ddt_path.specs.declared.record.Outcome.{Outcome}
use Rattle.ddt_path.specs.declared.record.Outcome.TheVariants.{Registered}
use Rattle.ddt_path.specs.declared.record.ReferralRecord.{ReferralRecord}
use Rattle.ddt_path.specs.declared.xeid.Xeid.{Xeid}
use Rattle.ddt_path.specs.Locators.{lists}
use Rattle.ddt_path.specs.Path.{xeid_path}
use Rattle.ddt_register.specs.declared.register.Register.{Register}
use Rattle.ddt_check.specs.Assignment.{assignment}
use Rattle.ddt_check.specs.Says.{says}
use Rattle.ddt_ecm.specs.UdpHeader.{control_port}
use Rattle.ddt_foreign.specs.Plain.{Gives}
use Rattle.ddt_sockets.specs.declared.wire_calls.Call.{Call}
use Rattle.ddt_sockets.specs.declared.wire_calls.Call.TheVariants.{Received}
use Rattle.ddt_sockets.specs.declared.wire_calls.Packet.{Packet}
use Rattle.ddt_config.specs.declared.settings.resolver_settings.Settings.{Settings}
use Rattle.ddt_resolver.specs.declared.itr_messages.ItrRequest.{ItrRequest}
use Rattle.ddt_resolver.specs.declared.results.Why.{Why}
use Rattle.ddt_resolver.specs.MatchReply.{TellsReply as IsReferralOf}
use Rattle.ddt_loop.specs.declared.packet_outcome.Ended.{Ended as End}
use Rattle.ddt_loop.specs.Requesters.{opening_desk}
use Rattle.ddt_loop.specs.Right.{WasAsked}
use Rattle.ddt_loop.specs.Runs.{BeginsSound, MayEndBy}
use Rattle.ddt_daemon.specs.declared.itr_requests.WaitingRequest.{WaitingRequest}
use Rattle.ddt_daemon.specs.Resolving.{Resolving}
use Rattle.ddt_daemon.specs.Rounds as rounds
use Rattle.ddt_daemon.specs.Rounds.{HearsSpelled, IsHeard, IsHandled, IsRound, no_packet, failed, came}
use Rattle.ddt_daemon.specs.Runs.{IsOnward, HasServed, begins, round, tick, hastening, resending, forgetting, waiting, renewal}

-- ---- the premise

-- What a datagram says of x in the one spelling: the datagram as it is, or what is given of it for x.
abbrev pub SaysOf : Xeid → List ℕ → List ℕ → Type 0
SaysOf x bytes plain = (plain ≡ bytes) ⊎ Gives x bytes plain

-- Of each request for x that was tried to a server before: a packet at the resolver's socket that comes from the
-- server's UDP port 4342, and spells a Map-Referral of the nonce for x, in any spelling that is read, says what the
-- register says there of x. In the one spelling this is `ArePacketsFair`.
abbrev pub AreRepliesFair : Register → Locator → List Call → Type 0
AreRepliesFair r me calls =
    (earlier later : List Call) (room : ℕ) (p : Packet) (bytes plain : List ℕ) (nonce : ℕ) (rec : ReferralRecord)
    (x : Xeid)
    → calls ≡ earlier ++ Received me room (Ok (Some p)) bytes ∷ later → p.port ≡ control_port → SaysOf x bytes plain
    → IsReferralOf plain nonce rec → WasAsked me p.from nonce x earlier → rec ≡ says r p.from (xeid_path x)

-- ---- the ends

-- a lookup that has ended: its ticket, how, and the requests of the ITRs that waited for it
pub record Finished : Type 0 where
  pub ticket : ℕ
  pub end : Result Outcome Why
  pub requests : List ItrRequest

-- the requests that wait for the lookup of a ticket
abbrev pub requests_for : ℕ → List WaitingRequest → List ItrRequest
requests_for t kept = map (λ k. k.request) (filter (λ k. k.ticket == t) kept)

-- the lookup that may have ended, for the request that it began for, and for all that waited for it
abbrev pub finished : {Ends : End → Type 0} → ((e : End) → Ends e → ItrRequest) → List WaitingRequest
    → (ended : Option End) → MayEndBy Ends ended → List Finished
finished begun_for kept None ends = []
finished begun_for kept (Some e) ends =
    record { ticket = e.ticket; end = e.end; requests = begun_for e ends ∷ requests_for e.ticket kept } ∷ []

-- the lookup that a datagram has ended
abbrev pub ended_by_reply : {me : Locator} {now : ℕ} {p : Packet} {bytes : List ℕ} {w : Resolving}
    {near far : List Call} {new : Resolving} → HearsSpelled me now p bytes w near far new → List Finished
ended_by_reply {w = w} (rounds.whole cuts h) = finished (λ e by_. by_.ends.request) w.kept h.ended h.ends
ended_by_reply {w = w} (rounds.cut heard cuts h) = finished (λ e by_. by_.ends.request) w.kept h.ended h.ends
ended_by_reply (rounds.lost wide near far same) = []

abbrev pub ended_by_datagram : {me : Locator} {now : ℕ} {p : Packet} {bytes : List ℕ} {w : Resolving}
    {near far : List Call} {new : Resolving} → IsHeard me now p bytes w near far new → List Finished
ended_by_datagram (rounds.spelled plain port is h) = ended_by_reply h
ended_by_datagram _ = []

abbrev pub ended_by_packet : {settings : Settings} {me : Locator} {now : ℕ} {p : Packet} {bytes : List ℕ}
    {w : Resolving} {near far : List Call} {new : Resolving} → IsHandled settings me now p bytes w near far new
    → List Finished
ended_by_packet (rounds.heard sort h) = ended_by_datagram h
ended_by_packet _ = []

abbrev pub ended_in_round : {settings : Settings} {me : Locator} {now : ℕ} {w : Resolving} {near far : List Call}
    {new : Resolving} → IsRound settings me now w near far new → List Finished
ended_in_round (came p bytes tries is h) = ended_by_packet h
ended_in_round _ = []

-- the lookups that have ended in a run: by replies, by ticks, and by being hastened
abbrev pub ends_of : {may_begin : _} {me : Locator} {start : Resolving} {calls onward : List Call} {w : Resolving}
    → HasServed may_begin me start calls onward w → List Finished
ends_of begins = []
ends_of (round settings now near far new so_far le is) = ends_of so_far ++ ended_in_round is
ends_of (tick {w = w} now near far new so_far le is) =
    ends_of so_far ++ finished (λ e by_. by_.request) w.kept is.ended is.ends
ends_of (hastening {w = w} now nonce near far new so_far le is) =
    ends_of so_far ++ finished (λ e by_. by_.request) w.kept is.ended is.ends
ends_of (resending nonce near so_far is) = ends_of so_far
ends_of (forgetting p so_far) = ends_of so_far
ends_of (waiting now so_far le) = ends_of so_far
ends_of (renewal new so_far may later) = ends_of so_far

-- an outcome is what the register assigns to the identifier of a request; without one the lookup gave up
abbrev pub IsAssigned : Register → Result Outcome Why → ItrRequest → Type 0
IsAssigned r (Ok o) q = o ≡ assignment r (xeid_path q.xeid)
IsAssigned r (Err why) q = Unit {0}

-- so it is for each request that waited
abbrev pub EndsAsAssigned : Register → Finished → Type 0
EndsAsAssigned r f = All (IsAssigned r f.end) f.requests

-- ---- the requests that go on

-- A request of an ITR goes on, its bit D set, to one of the servers that the register assigns to its identifier, as
-- registered.
pub record GoesToAssigned (r : Register) (me : Locator) (call : Call) : Type 0 where
  pub onward : IsOnward me call
  pub prefix : List ℕ
  pub servers : List Locator
  pub registered : assignment r (xeid_path onward.request.xeid) ≡ Registered prefix servers
  pub among_them : IsTrue (lists servers onward.to)

-- ---- the law

-- a Map-Resolver begins sound for a register, and no request waits
pub record BeginsAtRest (r : Register) (me : Locator) (start : Resolving) : Type 0 where
  pub sound : BeginsSound r me start.running.state
  pub nobody : start.running.desk ≡ opening_desk []
  pub no_request : start.kept ≡ []

-- What holds of the lookups that have ended, and of the requests that went on, in each run of a Map-Resolver that
-- begins so, as do all that go on in its place, where the replies to what it asks are fair.
abbrev pub WhereFair : (Register → Locator → List Finished → List Call → Type 0) → Type 0
WhereFair holds =
    (r : Register) (me : Locator) (start : Resolving) (calls onward : List Call) (w : Resolving)
    → BeginsAtRest r me start → (run : HasServed (BeginsSound r me) me start calls onward w)
    → AreRepliesFair r me calls → holds r me (ends_of run) onward

-- Each lookup that ends with an outcome ends as the register assigns it to the identifier of each request that waited
-- for it, also where that is registered.
abbrev pub EndsAreAssigned : Type 0
EndsAreAssigned = WhereFair (λ r me ends onward. All (EndsAsAssigned r) ends)

-- Each request that goes on has an identifier that is registered, and goes to one of the servers of its assignment.
abbrev pub RequestsGoToTheAssigned : Type 0
RequestsGoToTheAssigned = WhereFair (λ r me ends onward. All (GoesToAssigned r me) onward)
