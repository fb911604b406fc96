-- Which Encapsulated Control Messages a resolver asks for, and why it drops others.
use Rattle.std.specs.Prelude.{ℕ, ◌≡◌, ◌≤◌, ◌<◌, ◌⊎◌, IsTrue, Bool, true, false, List, length, Result, Ok, Err, Option, None, Some}
use Rattle.ddt_path.specs.declared.locator.Locator.{Locator}
use Rattle.ddt_path.specs.declared.record.Outcome.{Outcome}
use Rattle.ddt_path.specs.declared.xeid.Xeid.{Xeid}
use Rattle.ddt_path.specs.Path.{xeid_path, is_path}
use Rattle.ddt_cache.specs.declared.cache_entry.Entry.{Entry}
use Rattle.ddt_foreign.specs.Request.{request_in}
use Rattle.ddt_cache.specs.Found.{IsFound}
use Rattle.ddt_resolver.specs.declared.itr_messages.ItrRequest.{ItrRequest}
use Rattle.ddt_resolver.specs.AskStep.{answer_of, IsUnanswered}
use Rattle.ddt_resolver.specs.State.{State, most_pending}
use Rattle.ddt_loop.specs.Acts.{Running}
use Rattle.ddt_loop.specs.Sharing.{IsAskedBy}
use Rattle.ddt_config.specs.declared.settings.resolver_settings.Settings.{Settings}
use Rattle.ddt_config.specs.Settings.Rlocs.{is_allowed}
use Rattle.ddt_daemon.specs.declared.itr_requests.WaitingRequest.{WaitingRequest}
use Rattle.ddt_daemon.specs.declared.admission.Dropped.{Dropped}
use Rattle.ddt_daemon.specs.declared.admission.Dropped.TheVariants.{Denied, TooLong, NoRequest, UnrecognizedAfi, Probe, NoReply, OwnAddress, Repeated, Full, SourceFull, SetFull, Looped, Memory}
use Rattle.ddt_daemon.specs.declared.admission.Lookup.{Lookup}
use Rattle.ddt_daemon.specs.declared.admission.Lookup.TheVariants.{Shared, Own}
use Rattle.ddt_daemon.specs.declared.admission.Place.{Place}
use Rattle.ddt_daemon.specs.declared.admission.Place.TheVariants.{Answered, Waits}
use Rattle.ddt_daemon.specs.declared.admission.Admitted.{Admitted as Granted}
use Rattle.ddt_daemon.specs.declared.admission.Admitted.TheVariants.{Answered as AnsweredNow, Waits as WaitsFor}
use Rattle.ddt_daemon.specs.declared.recent_requests.Recent.{Recent}
use Rattle.ddt_daemon.specs.WaitingRequest.{waits_for, of_source, of_set}
use Rattle.ddt_daemon.specs.Recent.{coming, HasBefore, IsNew}
use Rattle.ddt_daemon.specs.Resolving.{Resolving, at_moment}
use Rattle.ddt_daemon.specs.Requests.{classified, IsSpellable}

-- the most bytes of a request that waits
abbrev pub most_kept_bytes : ℕ
most_kept_bytes = 1500

-- the most waiting requests of one source: an eighth of all
abbrev pub most_of_source : ℕ
most_of_source = 128

-- the most waiting requests whose lookups begin at one referral set: a quarter of all
abbrev pub most_of_set : ℕ
most_of_set = 256

-- this answer to an identifier is remembered: a negative record
abbrev pub Answers : State → Xeid → Outcome → Type 0
Answers s x o = (p : List ℕ) × (e : Entry) × IsFound s.known (xeid_path x) p e × (answer_of p e ≡ Some o)

-- an answer to an identifier is remembered
abbrev pub IsAnswered : State → Xeid → Type 0
IsAnswered s x = (o : Outcome) × Answers s x o

-- a lookup of an identifier would begin at these servers
abbrev pub BeginsAt : State → Xeid → List Locator → Type 0
BeginsAt s x servers =
    (p : List ℕ) × (e : Entry) × IsFound s.known (xeid_path x) p e × (answer_of p e ≡ None) × (servers ≡ e.servers)

-- no ITR waits for a lookup of an identifier, so that none can be shared
abbrev pub IsUnasked : Running → Xeid → Type 0
IsUnasked w x = (t : ℕ) → IsAskedBy w.desk.waiting t x → ⊥

-- there is room for one more request that waits, also of this source
pub record HasRoom (kept : List WaitingRequest) (from : Locator) : Type 0 where
  pub few : length kept < most_pending
  pub few_of_source : of_source kept from < most_of_source

-- What a request needs. `answered`: its answer is remembered, so that it doesn't wait. `shares`: no answer is, and an
-- ITR waits for the lookup of the same identifier. `begins`: none does, and a lookup begins at a referral set that few
-- wait for.
pub data HasPlace (kept : List WaitingRequest) (w : Running) (from : Locator) (q : ItrRequest) : Type 0 where
  answered : IsAnswered w.state q.xeid → HasPlace kept w from q
  shares : (t : ℕ) → IsUnanswered w.state q.xeid → IsAskedBy w.desk.waiting t q.xeid → HasRoom kept from
      → HasPlace kept w from q
  begins : (servers : List Locator) → IsUnasked w q.xeid → BeginsAt w.state q.xeid servers → HasRoom kept from
      → of_set kept servers < most_of_set → HasPlace kept w from q

-- the lookup that a request waits for is that of an ITR which waits for the same identifier, or one that begins at a
-- referral set
abbrev pub HasLookup : List WaitingRequest → Running → Locator → Xeid → Lookup → Type 0
HasLookup kept w from x (Shared t) = IsUnanswered w.state x × IsAskedBy w.desk.waiting t x × HasRoom kept from
HasLookup kept w from x (Own servers) =
    IsUnasked w x × BeginsAt w.state x servers × HasRoom kept from × (of_set kept servers < most_of_set)

-- where a request's place is: its answer is remembered, or it waits for a lookup
abbrev pub IsPlaced : List WaitingRequest → Running → Locator → Xeid → Place → Type 0
IsPlaced kept w from x (Answered o) = Answers w.state x o
IsPlaced kept w from x (Waits lookup) = HasLookup kept w from x lookup

-- fewer requests wait than may, but as many of this source as may
abbrev pub IsFullOfSource : List WaitingRequest → Locator → Type 0
IsFullOfSource kept from = (length kept < most_pending) × (most_of_source ≤ of_source kept from)

-- there is room but for the referral set at which a lookup of an identifier would begin, and no ITR waits for one
abbrev pub IsFullOfSet : List WaitingRequest → Running → Locator → Xeid → Type 0
IsFullOfSet kept w from x =
    HasRoom kept from × IsUnasked w x
    × ((servers : List Locator) × BeginsAt w.state x servers × (most_of_set ≤ of_set kept servers))

-- why it has none
abbrev pub IsRefusedPlace : List WaitingRequest → Running → Locator → Xeid → Dropped → Type 0
IsRefusedPlace kept w from x Full = IsUnanswered w.state x × (most_pending ≤ length kept)
IsRefusedPlace kept w from x SourceFull = IsUnanswered w.state x × IsFullOfSource kept from
IsRefusedPlace kept w from x SetFull = IsUnanswered w.state x × IsFullOfSet kept w from x
IsRefusedPlace kept w from x _ = ⊥

-- why a request that has a place doesn't wait: it comes back from where it was sent on, or it doesn't, and there is no
-- memory
abbrev pub IsRefusedWait : List (Option Recent) → Recent → Dropped → Type 0
IsRefusedWait recent came Looped = HasBefore recent came
IsRefusedWait recent came Memory = HasBefore recent came → ⊥
IsRefusedWait recent came _ = ⊥

-- it may come from there, and it is short enough to be kept
abbrev pub MayCome : Settings → Locator → List ℕ → Type 0
MayCome settings from bytes = (is_allowed settings.allow from ≡ true) × (length bytes ≤ most_kept_bytes)

-- it may come from there, and this is what it asks of the resolver for an ITR
pub record IsAllowed (settings : Settings) (from : Locator) (bytes : List ℕ) (q : ItrRequest) : Type 0 where
  pub may_come : MayCome settings from bytes
  pub asks : classified settings.listen (request_in bytes) ≡ Ok q
  pub identifier : IsTrue (is_path (xeid_path q.xeid))
  pub spelled : IsSpellable q

-- it may come from there, and the resolver doesn't ask for it for this reason
abbrev pub IsNotAsked : Settings → Locator → List ℕ → Dropped → Type 0
IsNotAsked settings from bytes why =
    MayCome settings from bytes × (classified settings.listen (request_in bytes) ≡ Err why)

-- It is asked for: the request of an ITR that is allowed, which doesn't wait yet; and there is a place for it.
pub record IsAdmitted (settings : Settings) (kept : List WaitingRequest) (w : Running) (from : Locator) (bytes : List ℕ)
    (q : ItrRequest) : Type 0 where
  pub may : IsAllowed settings from bytes q
  pub unlike : waits_for kept q ≡ false
  pub place : HasPlace kept w from q

-- What is asked for, of a message from there. Its answer is remembered, or it waits for a lookup, as it came.
abbrev pub IsGranted : Settings → List WaitingRequest → Running → Locator → List ℕ → Granted → Type 0
IsGranted settings kept w from bytes (AnsweredNow a) =
    IsAdmitted settings kept w from bytes a.request × Answers w.state a.request.xeid a.outcome
IsGranted settings kept w from bytes (WaitsFor a) =
    IsAdmitted settings kept w from bytes a.request × HasLookup kept w from a.request.xeid a.lookup
    × (a.from ≡ from) × (a.bytes ≡ bytes)

-- with this count of waiting requests and this capacity, there is room for one more
abbrev pub HasRoomToWait : ℕ → ℕ → Granted → Type 0
HasRoomToWait count room (AnsweredNow a) = Unit {0}
HasRoomToWait count room (WaitsFor a) = count < room

-- what is remembered lately of a request that is asked for: it, only if it waits
abbrev pub IsRememberedAt : ℕ → List (Option Recent) → Granted → List (Option Recent) → Type 0
IsRememberedAt now old (AnsweredNow a) new = new ≡ old
IsRememberedAt now old (WaitsFor a) new = IsNew old (coming a.request a.from now) new

-- it would wait: no answer is remembered
pub record WouldWait (settings : Settings) (kept : List WaitingRequest) (w : Running) (from : Locator) (bytes : List ℕ)
    (q : ItrRequest) : Type 0 where
  pub may : IsAllowed settings from bytes q
  pub unlike : waits_for kept q ≡ false
  pub unanswered : IsUnanswered w.state q.xeid

-- it may wait: there is a place for it, at which it waits for a lookup
pub record MayWait (settings : Settings) (kept : List WaitingRequest) (w : Running) (from : Locator) (bytes : List ℕ)
    (q : ItrRequest) : Type 0 where
  pub admitted : IsAdmitted settings kept w from bytes q
  pub lookup : Lookup
  pub has_lookup : HasLookup kept w from q.xeid lookup

-- It is dropped, by the first of these reasons. Full, SourceFull, SetFull: no answer is remembered, and too many wait,
-- of all, of its source, or for the referral set at which its lookup would begin. Looped: it may wait, but came back
-- from where it was sent on to. Memory: it may wait and didn't come back, but there is no memory to keep it in.
abbrev pub IsDropped : Settings → ℕ → Resolving → Locator → List ℕ → Dropped → Type 0
IsDropped settings now w from bytes Denied = is_allowed settings.allow from ≡ false
IsDropped settings now w from bytes TooLong =
    (is_allowed settings.allow from ≡ true) × (most_kept_bytes < length bytes)
IsDropped settings now w from bytes NoRequest = IsNotAsked settings from bytes NoRequest
IsDropped settings now w from bytes UnrecognizedAfi = IsNotAsked settings from bytes UnrecognizedAfi
IsDropped settings now w from bytes Probe = IsNotAsked settings from bytes Probe
IsDropped settings now w from bytes NoReply = IsNotAsked settings from bytes NoReply
IsDropped settings now w from bytes OwnAddress = IsNotAsked settings from bytes OwnAddress
IsDropped settings now w from bytes Repeated =
    (q : ItrRequest) × IsAllowed settings from bytes q × (waits_for w.kept q ≡ true)
IsDropped settings now w from bytes Full =
    (q : ItrRequest) × WouldWait settings w.kept (at_moment now w.running) from bytes q
    × (most_pending ≤ length w.kept)
IsDropped settings now w from bytes SourceFull =
    (q : ItrRequest) × WouldWait settings w.kept (at_moment now w.running) from bytes q × IsFullOfSource w.kept from
IsDropped settings now w from bytes SetFull =
    (q : ItrRequest) × WouldWait settings w.kept (at_moment now w.running) from bytes q
    × IsFullOfSet w.kept (at_moment now w.running) from q.xeid
IsDropped settings now w from bytes Looped =
    (q : ItrRequest) × MayWait settings w.kept (at_moment now w.running) from bytes q
    × HasBefore w.recent (coming q from now)
IsDropped settings now w from bytes Memory =
    (q : ItrRequest) × MayWait settings w.kept (at_moment now w.running) from bytes q
    × (HasBefore w.recent (coming q from now) → ⊥)
