-- A lookup that waits for the reply to its last request, from its ask to its end.
use Rattle.std.proofs.Common.{◌≡◌, ℕ, ◌+◌, ◌^◌, ◌<◌, ◌≤◌, ◌⊎◌, true, List, [], ◌∷◌, length, None, Some, Result, Ok, Err, inl, inr, refl, sym, ap, ◌∙◌, arith, max}
use Rattle.std.specs.FinMap.{len}
use Rattle.std.proofs.lemmas.Option.{same_Some}
use Rattle.ddt_path.specs.declared.xeid.Xeid.{Xeid}
use Rattle.ddt_path.specs.declared.locator.Locator.{Locator}
use Rattle.ddt_path.specs.declared.action.Action.TheVariants.{MsAck, MsNotRegistered, DelegationHole, NotAuthoritative}
use Rattle.ddt_path.specs.declared.record.ReferralRecord.{ReferralRecord}
use Rattle.ddt_path.specs.Actions.{IsReferral}
use Rattle.ddt_path.specs.Path.{xeid_path}
use Rattle.ddt_ecm.specs.Request.{Spells}
use Rattle.ddt_ecm.specs.laws.Statements.{WrittenSpells, message_of}
use Rattle.ddt_cache.specs.Found.{IsFound}
use Rattle.ddt_resolver.specs.declared.pending.Pending.{Pending}
use Rattle.ddt_resolver.specs.declared.results.Outgoing.{Outgoing}
use Rattle.ddt_resolver.specs.declared.results.Asked.{Asked}
use Rattle.ddt_resolver.specs.declared.results.Asked.TheVariants as asked
use Rattle.ddt_resolver.specs.declared.results.AskError.{AskError}
use Rattle.ddt_resolver.specs.declared.results.AskError.TheVariants as ask_error
use Rattle.ddt_resolver.specs.declared.results.Heard.{Heard}
use Rattle.ddt_resolver.specs.declared.results.Heard.TheVariants as heard
use Rattle.ddt_resolver.specs.declared.results.Why.TheVariants.{NoReply, Exhausted}
use Rattle.ddt_resolver.specs.State.{State, moved, request, request_bytes, numbered, request_sent, stored, forgotten, opening, referred, passed_on, started_over, last_nonce, most_pending}
use Rattle.ddt_resolver.specs.Records.{IsBelow, outcome_of, start_at}
use Rattle.ddt_resolver.specs.AskStep.{AskStep, Start, cached, full, used_up, opened, answer_of}
use Rattle.ddt_resolver.specs.MatchReply.{IsTaken}
use Rattle.ddt_resolver.specs.Act as acts
use Rattle.ddt_resolver.specs.Act.{Act, HearStep, MayStartOver}
use Rattle.ddt_resolver.specs.laws.NumberMap.{get-insert_same}
use Rattle.ddt_sim.specs.Waiting.{Waits, CanBeAsked}

-- a request that is written spells a DDT Map-Request
pub spelled_request : WrittenSpells → (nonce : ℕ) (x : Xeid) (me : Locator) → nonce < 2 ^ 64 → CanBeAsked x me
    → Spells (request_bytes nonce x me) (message_of nonce x (me ∷ []) true)
unfolding request_bytes
spelled_request written nonce x me few fits = written nonce x (me ∷ []) true (record {
  nonce_fits = few;
  iid_fits = fits.iid_fits;
  address_fits = fits.address_fits;
  some = omega arith;
  few = omega arith;
  rlocs_fit = (fits.me_fits, tt);
})

-- ---- what an ask and a reply do

-- an ask that sends a request opens a lookup at the entry that is found, under the ticket and with the request
pub data Opens (s : State) (x : Xeid) : State → ℕ → Outgoing → Type 0 where
  opens : (p : _) (e : _) → IsFound s.known (xeid_path x) p e → answer_of p e ≡ None
      → Opens s x (request_sent s s.next (opening x e.servers (start_at p))) s.next (request s (opening x e.servers (start_at p)))

-- what an ask does, by what is answered to it
abbrev pub DoesAsk : State → Xeid → State → Result Asked AskError → Type 0
DoesAsk s x new (Ok (asked.Sent t d)) = Opens s x new t d
DoesAsk s x new (Ok (asked.Answer o)) = (p : _) × (e : _) × IsFound s.known (xeid_path x) p e × (answer_of p e ≡ Some o)
DoesAsk s x new (Err ask_error.TooMany) = most_pending ≤ len s.pending
DoesAsk s x new (Err ask_error.Exhausted) = new.next ≡ last_nonce
DoesAsk s x new (Err ask_error.Memory) = ⊥

pub does_ask : {s new : State} {x : Xeid} {res : Result Asked AskError} → AskStep s x new res → DoesAsk s x new res
does_ask {s = s} {new = new} {x = x} {res = res} step = by step.start
  where
    by : Start s x step.prefix step.entry new res → DoesAsk s x new res
    by (cached o answer e f) = rw f (step.prefix, step.entry, step.found, answer)
    by (full none many e f) = rw f many
    by (used_up none few over e f) = rw (e, f) over
    by (opened free e f) = rw (e, f) (opens step.prefix step.entry step.found free.unanswered)

-- how a lookup goes on after a record: from which state, and as which lookup
pub data Onward (s : State) (l : Pending) (rec : ReferralRecord) : State → Pending → Type 0 where
  refers : IsReferral rec.action → IsBelow l.last_referral rec.prefix → Onward s l rec (stored s rec) (referred l rec)
  passes_on : rec.action ≡ MsNotRegistered → l.server_index + 1 < length l.servers → Onward s l rec s (passed_on l rec)
  starts_over : (p : List ℕ) → rec.action ≡ NotAuthoritative → MayStartOver l p → Onward s l rec (forgotten s p) (started_over s l)

pub onward_keeps : {s : State} {l : Pending} {rec : ReferralRecord} {base : State} {m : Pending} → Onward s l rec base m
    → (base.known.time ≡ s.known.time) × (m.x ≡ l.x) × (base.me ≡ s.me) × (base.known.roots ≡ s.known.roots)
onward_keeps (refers k lower) = (refl, refl, refl, refl)
onward_keeps _ = (refl, refl, refl, refl)

-- a reply that a lookup follows, to this state and request
pub data Follows (s : State) (source : Locator) (reply : List ℕ) (t : ℕ) : State → Outgoing → Type 0 where
  follows : (l : Pending) (rec : ReferralRecord) (base : State) (m : Pending) → IsTaken s source reply t l rec → Onward s l rec base m
      → Follows s source reply t (request_sent base t m) (request base m)

-- a record after which it has an outcome
pub data Closes (l : Pending) (rec : ReferralRecord) : Type 0 where
  ends : (rec.action ≡ MsAck) ⊎ (rec.action ≡ DelegationHole) → Closes l rec
  concludes : rec.action ≡ MsNotRegistered → length l.servers ≤ l.server_index + 1 → Closes l rec

-- what a reply does, by what is answered to it
abbrev pub Does : State → Locator → List ℕ → State → Heard → Type 0
Does s source reply new (heard.Ignored why) = Unit {0}
Does s source reply new (heard.Followed t e) = Follows s source reply t new e
Does s source reply new (heard.Answer t o) = (l : Pending) × (rec : ReferralRecord) × IsTaken s source reply t l rec × Closes l rec × (o ≡ outcome_of rec)
Does s source reply new (heard.GaveUp t why) = (why ≡ NoReply → ⊥) × (why ≡ Exhausted → new.next ≡ last_nonce)

pub does : {s new : State} {source : Locator} {reply : List ℕ} {h : Heard} → HearStep s source reply new h → Does s source reply new h
does (acts.ignored why ignores e f) = rw f tt
does {s = s} {new = new} {source = source} {reply = reply} {h = h} (acts.taken t l rec taken act) = by act
  where
    by : Act s t l rec new h → Does s source reply new h
    by (acts.loops k loop e f) = rw f (λ no. cc no, λ used. cc used)
    by (acts.refers k lower more e f) = rw (e, f) (follows l rec _ _ taken (refers k lower))
    by (acts.acknowledges k e f) = rw f (l, rec, taken, ends (inl k), refl)
    by (acts.closes k e f) = rw f (l, rec, taken, ends (inr k), refl)
    by (acts.passes_on k more room e f) = rw (e, f) (follows l rec _ _ taken (passes_on k more))
    by (acts.concludes k last e f) = rw f (l, rec, taken, concludes k last, refl)
    by (acts.starts_over p k start room e f) = rw (e, f) (follows l rec _ _ taken (starts_over p k start))
    by (acts.nobody k start e f) = rw f (λ no. cc no, λ used. cc used)
    by (acts.used_up k over e f) = rw (e, f) (λ no. cc no, λ used. over)

-- ---- so it waits

-- at the time that a lookup has, the passing of time to `now` changes nothing of it
abbrev pub waits_on : (now : ℕ) (x : Xeid) (s : State) (t : ℕ) (d : Outgoing) → Waits now x s t d → Waits now x (moved now s) t d
waits_on now x s t d w =
    let same : max s.known.time now ≡ s.known.time = let le = w.time in omega arith in
    let later : now ≤ max s.known.time now = omega arith in
    record { lookup = w.lookup; is_pending = w.is_pending; its_x = w.its_x; to = w.to; bytes = w.bytes; deadline = w.deadline ∙ ap (λ n. n + 2000) (sym same); time = later }

-- one that is lodged waits
abbrev pub request_sent_waits : (now : ℕ) (x : Xeid) (s : State) (t : ℕ) (l : Pending) → now ≤ s.known.time → l.x ≡ x → Waits now x (request_sent s t l) t (request s l)
request_sent_waits now x s t l le same = record {
  lookup = numbered s l;
  is_pending = get-insert_same s.pending t (numbered s l);
  its_x = same;
  to = refl;
  bytes = ap (λ y. request_bytes s.next y s.me) same;
  deadline = refl;
  time = le;
}

-- a lookup that takes a reply to the ticket of one that waits is that one
pub own_lookup : {now t : ℕ} {x : Xeid} {s : State} {d : Outgoing} {source : Locator} {reply : List ℕ} {l : Pending} {rec : ReferralRecord}
    → (w : Waits now x s t d) → IsTaken (moved now s) source reply t l rec → l ≡ w.lookup
own_lookup w taken = same_Some _ _ (sym taken.in_time.from_server.reply.is_pending ∙ w.is_pending)

abbrev pub asked_waits : {now t : ℕ} {x : Xeid} {s new : State} {d : Outgoing} → now ≤ s.known.time → Opens s x new t d → Waits now x new t d
asked_waits le (opens p e found none) = request_sent_waits _ _ _ _ (opening _ e.servers (start_at p)) le refl

abbrev pub followed_waits : {now t : ℕ} {x : Xeid} {s new : State} {d e : Outgoing} {source : Locator} {reply : List ℕ}
    → Waits now x s t d → Follows (moved now s) source reply t new e → Waits now x new t e
followed_waits {now = now} w (follows l rec base m taken on) =
    let k = onward_keeps on in
    let le : now ≤ base.known.time = let same = k.0 in omega arith in
    request_sent_waits _ _ base _ m le (k.1 ∙ ap (λ (p : Pending). p.x) (own_lookup w taken) ∙ w.its_x)

pub followed_me : {s : State} {source : Locator} {reply : List ℕ} {t : ℕ} {new : State} {e : Outgoing} → Follows s source reply t new e → new.me ≡ s.me
followed_me (follows l rec base m taken on) = (onward_keeps on).2
