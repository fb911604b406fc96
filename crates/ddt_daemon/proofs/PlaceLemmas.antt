-- Where a request of an ITR has its place, and why it has none.
use Rattle.std.proofs.Common.{◌≡◌, ℕ, ◌≤◌, true, false, List, Option, Some, None, refl, sym, ap, ◌∙◌, inl, inr}
use Rattle.std.proofs.lemmas.Option.{same_Some}
use Rattle.ddt_path.specs.declared.locator.Locator.{Locator}
use Rattle.ddt_path.specs.declared.record.Outcome.{Outcome}
use Rattle.ddt_path.specs.declared.xeid.Xeid.{Xeid}
use Rattle.ddt_path.specs.Path.{xeid_path}
use Rattle.ddt_cache.specs.declared.cache_entry.Entry.{Entry}
use Rattle.ddt_cache.specs.Found.{IsFound}
use Rattle.ddt_cache.specs.laws.Known.{IsFound-unique}
use Rattle.ddt_resolver.specs.declared.itr_messages.ItrRequest.{ItrRequest}
use Rattle.ddt_resolver.specs.declared.results.Beginning.{Beginning}
use Rattle.ddt_resolver.specs.declared.results.Beginning.TheVariants.{Answer, Servers}
use Rattle.ddt_resolver.specs.AskStep.{answer_of, begins_with, beginning_at, IsUnanswered}
use Rattle.ddt_resolver.specs.State.{State}
use Rattle.ddt_loop.specs.Acts.{Running}
use Rattle.ddt_config.specs.declared.settings.resolver_settings.Settings.{Settings}
use Rattle.ddt_daemon.specs.declared.itr_requests.WaitingRequest.{WaitingRequest}
use Rattle.ddt_daemon.specs.declared.admission.Dropped.{Dropped}
use Rattle.ddt_daemon.specs.declared.admission.Dropped.TheVariants.{Denied, TooLong, NoRequest, UnrecognizedAfi, Probe, NoReply, OwnAddress, Repeated, Full, SourceFull, SetFull, Looped, Memory}
use Rattle.ddt_daemon.specs.declared.admission.Lookup.{Lookup}
use Rattle.ddt_daemon.specs.declared.admission.Lookup.TheVariants.{Shared, Own}
use Rattle.ddt_daemon.specs.WaitingRequest.{waits_for}
use Rattle.ddt_daemon.specs.Recent.{coming}
use Rattle.ddt_daemon.specs.Resolving.{Resolving, at_moment}
use Rattle.ddt_daemon.specs.Admitted.{Answers, BeginsAt, HasLookup, HasPlace, answered, shares, begins, IsRefusedPlace, IsRefusedWait, IsAllowed, IsAdmitted, MayWait, IsDropped}

begun : (a : Option Outcome) (own servers : List Locator) → Servers servers ≡ begins_with a own → (a ≡ None) × (servers ≡ own)
begun None own servers is = (refl, cc is)
begun (Some o) own servers is = absurd (cc is)

pub unanswered : (s : State) (x : Xeid) (p : List ℕ) (e : Entry) (servers : List Locator) → IsFound s.known (xeid_path x) p e → Servers servers ≡ beginning_at p e → IsUnanswered s x
unanswered s x p e servers found is q f other =
    let same = IsFound-unique s.known (xeid_path x) q p f e other found in
    rw (same.0, same.1) (begun (answer_of p e) e.servers servers is).0

pub begins_at_its : (s : State) (x : Xeid) (p : List ℕ) (e : Entry) (servers : List Locator) → IsFound s.known (xeid_path x) p e → Servers servers ≡ beginning_at p e → BeginsAt s x servers
begins_at_its s x p e servers found is = let b = begun (answer_of p e) e.servers servers is in (p, e, found, b.0, b.1)

has_place : (kept : List WaitingRequest) (w : Running) (from : Locator) (q : ItrRequest) (lookup : Lookup) → HasLookup kept w from q.xeid lookup → HasPlace kept w from q
has_place kept w from q (Shared t) is = shares t is.0 is.1 is.2
has_place kept w from q (Own servers) is = begins servers is.0 is.1 is.2 is.3

pub admitted_at_once : {settings : Settings} (kept : List WaitingRequest) (w : Running) {from : Locator} {bytes : List ℕ} {q : ItrRequest} (o : Outcome)
    → IsAllowed settings from bytes q → waits_for kept q ≡ false → Answers w.state q.xeid o → IsAdmitted settings kept w from bytes q
admitted_at_once kept w o may unlike is = record { may = may; unlike = unlike; place = answered (o, is) }

pub admitted_is : {settings : Settings} (kept : List WaitingRequest) (w : Running) {from : Locator} {bytes : List ℕ} {q : ItrRequest} (lookup : Lookup)
    → IsAllowed settings from bytes q → waits_for kept q ≡ false → HasLookup kept w from q.xeid lookup → IsAdmitted settings kept w from bytes q
admitted_is kept w {from} {q = q} lookup may unlike is = record { may = may; unlike = unlike; place = has_place kept w from q lookup is }

pub may_wait : {settings : Settings} (kept : List WaitingRequest) (w : Running) {from : Locator} {bytes : List ℕ} {q : ItrRequest} (lookup : Lookup)
    → IsAllowed settings from bytes q → waits_for kept q ≡ false → HasLookup kept w from q.xeid lookup → MayWait settings kept w from bytes q
may_wait kept w lookup may unlike is = record { admitted = admitted_is kept w lookup may unlike is; lookup = lookup; has_lookup = is }

-- a request that may wait doesn't for one of these reasons
pub refused_wait : {settings : Settings} (now : ℕ) {from : Locator} {bytes : List ℕ} {q : ItrRequest} (w : Resolving) (why : Dropped)
    → MayWait settings w.kept (at_moment now w.running) from bytes q → IsRefusedWait w.recent (coming q from now) why → IsDropped settings now w from bytes why
refused_wait now {q = q} w Looped may is = (q, may, is)
refused_wait now {q = q} w Memory may is = (q, may, is)
refused_wait now w Full may is = absurd is
refused_wait now w SourceFull may is = absurd is
refused_wait now w SetFull may is = absurd is
refused_wait now w Denied may is = absurd is
refused_wait now w TooLong may is = absurd is
refused_wait now w NoRequest may is = absurd is
refused_wait now w UnrecognizedAfi may is = absurd is
refused_wait now w Probe may is = absurd is
refused_wait now w NoReply may is = absurd is
refused_wait now w OwnAddress may is = absurd is
refused_wait now w Repeated may is = absurd is

-- an answer with which a lookup would begin is remembered
pub answers_with : (s : State) (x : Xeid) (p : List ℕ) (e : Entry) (o : Outcome) → IsFound s.known (xeid_path x) p e → Answer o ≡ beginning_at p e → Answers s x o
answers_with s x p e o found is = (p, e, found, answered_by (answer_of p e) e.servers o is)
  where
    answered_by : (a : Option Outcome) (own : List Locator) (o : Outcome) → Answer o ≡ begins_with a own → a ≡ Some o
    answered_by None own o is = absurd (cc is)
    answered_by (Some o') own o is = cc is

pub refused_is : {settings : Settings} (now : ℕ) {from : Locator} {bytes : List ℕ} {q : ItrRequest} (w : Resolving) (why : Dropped)
    → IsAllowed settings from bytes q → waits_for w.kept q ≡ false → IsRefusedPlace w.kept (at_moment now w.running) from q.xeid why → IsDropped settings now w from bytes why
refused_is now {q = q} w Full may unlike is = (q, record { may = may; unlike = unlike; unanswered = is.0 }, is.1)
refused_is now {q = q} w SourceFull may unlike is = (q, record { may = may; unlike = unlike; unanswered = is.0 }, is.1)
refused_is now {q = q} w SetFull may unlike is = (q, record { may = may; unlike = unlike; unanswered = is.0 }, is.1)
refused_is now w Denied may unlike is = absurd is
refused_is now w TooLong may unlike is = absurd is
refused_is now w NoRequest may unlike is = absurd is
refused_is now w UnrecognizedAfi may unlike is = absurd is
refused_is now w Probe may unlike is = absurd is
refused_is now w NoReply may unlike is = absurd is
refused_is now w OwnAddress may unlike is = absurd is
refused_is now w Looped may unlike is = absurd is
refused_is now w Repeated may unlike is = absurd is
refused_is now w Memory may unlike is = absurd is
