-- The four ways in which a step changes what is pending: it stays, a lookup opens, sends again, or is dropped.
use Rattle.std.proofs.Common.{◌≡◌, ◌⊎◌, ℕ, ◌+◌, ◌<◌, ◌≤◌, true, false, List, [], ◌∷◌, length, Some, None, Result, Ok, Err, refl, ap, ◌∙◌, inl, inr, arith}
use Rattle.std.specs.Prelude.{◌≢◌, IsTrue}
use Rattle.std.specs.FinMap.{get, insert, remove, len}
use Rattle.std.proofs.lemmas.Option.{same_Some}
use Rattle.std.proofs.lemmas.List.{length-take}
use Rattle.ddt_path.specs.declared.locator.Locator.{Locator}
use Rattle.ddt_path.specs.declared.xeid.Xeid.{Xeid}
use Rattle.ddt_path.specs.declared.action.Action.{Action}
use Rattle.ddt_path.specs.declared.action.Action.TheVariants.{NodeReferral, MsReferral, MsAck, MsNotRegistered, DelegationHole, NotAuthoritative}
use Rattle.ddt_path.specs.declared.record.ReferralRecord.{ReferralRecord}
use Rattle.ddt_path.specs.Path.{xeid_path, is_path}
use Rattle.ddt_path.specs.Covers.{covers}
use Rattle.ddt_cache.specs.declared.cache_entry.Entry.{Entry}
use Rattle.ddt_cache.specs.Entry.{is_positive}
use Rattle.ddt_cache.specs.Found.{IsFound}
use Rattle.ddt_cache.specs.Live.{Known}
use Rattle.ddt_cache.specs.InOrder.{IsCacheInOrder as IsKnownInOrder, IsEntryInOrder}
use Rattle.ddt_cache.specs.laws.Order.{stored_in_order, forgotten_in_order}
use Rattle.ddt_resolver.specs.declared.pending.Pending.{Pending}
use Rattle.ddt_resolver.specs.declared.results.Asked.{Asked}
use Rattle.ddt_resolver.specs.declared.results.Asked.TheVariants as asked
use Rattle.ddt_resolver.specs.declared.results.AskError.{AskError}
use Rattle.ddt_resolver.specs.declared.results.Why.{Why}
use Rattle.ddt_resolver.specs.declared.results.Heard.{Heard}
use Rattle.ddt_resolver.specs.declared.results.Heard.TheVariants as heard
use Rattle.ddt_resolver.specs.declared.results.Ticked.{Ticked}
use Rattle.ddt_resolver.specs.declared.results.Ticked.TheVariants as ticked
use Rattle.ddt_path.specs.declared.record.Outcome.{Outcome}
use Rattle.ddt_path.specs.declared.record.Outcome.TheVariants.{NotRegistered}
use Rattle.ddt_resolver.specs.declared.results.Why.TheVariants.{NoReply, Loop, NotAuthoritative as NobodyInCharge, Exhausted}
use Rattle.ddt_resolver.specs.declared.step.Reply.{Reply}
use Rattle.ddt_resolver.specs.declared.step.Reply.TheVariants.{ToAsk, ToDatagram, ToTick}
use Rattle.ddt_resolver.specs.declared.step.Progress.TheVariants.{Stays, Sends, Ends}
use Rattle.ddt_resolver.specs.State.{State, last_nonce, most_pending, request, numbered, request_sent, dropped, stored, opening, referred, passed_on, started_over, tried_again, at_next}
use Rattle.ddt_path.specs.Actions.{IsReferral}
use Rattle.ddt_resolver.specs.Records.{IsAbout, IsBelow, negative_answer, outcome_of, start_at}
use Rattle.ddt_resolver.specs.AskStep.{answer_of, AskStep}
use Rattle.ddt_resolver.specs.AskStep as ask
use Rattle.ddt_resolver.specs.MatchReply.{IsTaken}
use Rattle.ddt_resolver.specs.Act.{Act, HearStep, MayStartOver}
use Rattle.ddt_resolver.specs.Act as act
use Rattle.ddt_resolver.specs.TickStep.{GoOn, IsDue, TickStep}
use Rattle.ddt_resolver.specs.TickStep as tick
use Rattle.ddt_resolver.specs.Step.{ResolverCall, Ask, Hear, Tick, Step, asks, hears, ticks, progress_of}
use Rattle.ddt_resolver.specs.Order.{IsLookup, IsWaiting, IsStateInOrder}

-- MS-ACK, MS-NOT-REGISTERED or DELEGATION-HOLE: the outcome is there
abbrev pub IsFinal : Action → Type 0
IsFinal a = (a ≡ MsAck) ⊎ (a ≡ MsNotRegistered) ⊎ (a ≡ DelegationHole)

-- A datagram that the lookup of a ticket takes, and the record that it tells.
pub record Takes (s : State) (call : ResolverCall) (t : ℕ) (l : Pending) (rec : ReferralRecord) : Type 0 where
  pub source : Locator
  pub bytes : List ℕ
  pub called : call ≡ Hear source bytes
  pub taken : IsTaken s source bytes t l rec

-- The deadline of the second request to the last server has come at a tick.
pub record IsLastDue (s : State) (call : ResolverCall) (l : Pending) : Type 0 where
  pub called : call ≡ Tick
  pub over : l.deadline ≤ s.known.time
  pub second : l.is_retry ≡ true
  pub at_end : length l.servers ≤ l.server_index + 1

-- Why a lookup ends. `by_record`: with the outcome of a final record. `by_kept`: no server is left, and one of the set
-- has said that the site isn't registered. `by_loop`: at a referral that isn't below the saved prefix. `by_nobody`: at a
-- server that isn't in charge, where it may not start over. `by_silence`: no server is left. `by_nonce`: it would go
-- on, but no nonce is left.
pub data Leaves (s : State) (call : ResolverCall) (t : ℕ) (l : Pending) (end : Result Outcome Why) : Type 0 where
  by_record : (rec : ReferralRecord) → Takes s call t l rec → IsFinal rec.action → end ≡ Ok (outcome_of rec) → Leaves s call t l end
  by_kept : (rec : ReferralRecord) → IsLastDue s call l → l.last_not_registered ≡ Some rec → end ≡ Ok (NotRegistered rec.prefix rec.servers) → Leaves s call t l end
  by_loop : (rec : ReferralRecord) → Takes s call t l rec → IsReferral rec.action → (IsBelow l.last_referral rec.prefix → ⊥) → end ≡ Err Loop → Leaves s call t l end
  by_nobody : (rec : ReferralRecord) → Takes s call t l rec → rec.action ≡ NotAuthoritative → ((p : List ℕ) → MayStartOver l p → ⊥) → end ≡ Err NobodyInCharge → Leaves s call t l end
  by_silence : IsLastDue s call l → l.last_not_registered ≡ None → end ≡ Err NoReply → Leaves s call t l end
  by_nonce : s.next ≡ last_nonce → end ≡ Err Exhausted → Leaves s call t l end

-- How a lookup goes on: at a new set, at the next server after an MS-NOT-REGISTERED, at the same server again, or at the
-- next one without a reply.
pub data Goes (s : State) (call : ResolverCall) (reply : Reply) (t : ℕ) (l new : Pending) : Type 0 where
  anew : reply ≡ ToDatagram (heard.Followed t (request s new)) → new.server_index ≡ 0 → new.is_retry ≡ false → new.last_not_registered ≡ None → Goes s call reply t l new
  keeps : (source : Locator) (bytes : List ℕ) (rec : ReferralRecord) → call ≡ Hear source bytes → IsTaken s source bytes t l rec
      → reply ≡ ToDatagram (heard.Followed t (request s new)) → new ≡ passed_on l rec → Goes s call reply t l new
  repeats : reply ≡ ToTick (ticked.Sent t (request s new)) → l.deadline ≤ s.known.time → l.is_retry ≡ false → new ≡ tried_again l → Goes s call reply t l new
  goes_on : reply ≡ ToTick (ticked.Sent t (request s new)) → l.deadline ≤ s.known.time → l.is_retry ≡ true → l.server_index + 1 < length l.servers → new ≡ at_next l → Goes s call reply t l new

-- it sends its next request
pub goes_sends : (s : State) (call : ResolverCall) (reply : Reply) (t : ℕ) (l new : Pending) → Goes s call reply t l new → progress_of reply ≡ Sends t (request s new)
goes_sends s call reply t l new (anew f place first empty) = ap progress_of f
goes_sends s call reply t l new (keeps source bytes rec called is f e) = ap progress_of f
goes_sends s call reply t l new (repeats f over first e) = ap progress_of f
goes_sends s call reply t l new (goes_on f over second more e) = ap progress_of f

-- What a step does to the pending lookups, by its progress.
pub data Move (s : State) (call : ResolverCall) (new : State) (reply : Reply) : Type 0 where
  stays : new.pending ≡ s.pending → new.next ≡ s.next → progress_of reply ≡ Stays → Move s call new reply
  opens : (l : Pending) → call ≡ Ask l.x → l.server_index ≡ 0 → l.is_retry ≡ false → l.last_not_registered ≡ None → l.last_referral ≡ None → IsLookup l → s.next < last_nonce
      → len s.pending < most_pending
      → new.pending ≡ insert s.pending s.next (numbered s l) → new.next ≡ s.next + 1 → reply ≡ ToAsk (Ok (asked.Sent s.next (request s l))) → Move s call new reply
  sends : (t : ℕ) (old l : Pending) → get s.pending t ≡ Some old → l.x ≡ old.x → Goes s call reply t old l → IsLookup l → s.next < last_nonce
      → new.pending ≡ insert s.pending t (numbered s l) → new.next ≡ s.next + 1 → Move s call new reply
  drops : (t : ℕ) (l : Pending) (end : Result Outcome Why) → get s.pending t ≡ Some l → new.pending ≡ remove s.pending t → new.next ≡ s.next → progress_of reply ≡ Ends t end
      → Leaves s call t l end → Move s call new reply

-- what a step leaves as it is, how it changes what is remembered, and what is pending
pub record IsMoved (s : State) (call : ResolverCall) (new : State) (reply : Reply) : Type 0 where
  pub time : new.known.time ≡ s.known.time
  pub me : new.me ≡ s.me
  pub roots : new.known.roots ≡ s.known.roots
  pub known : IsKnownInOrder new.known
  pub move : Move s call new reply

-- ---- an ask

positive : (a : Action) (p : List ℕ) (servers : List Locator) → negative_answer a p servers ≡ None → a ≢ NotAuthoritative → is_positive a ≡ true
positive NodeReferral p servers e n = refl
positive MsReferral p servers e n = refl
positive MsAck p servers e n = refl
positive MsNotRegistered p servers e n = cc
positive DelegationHole p servers e n = cc
positive NotAuthoritative p servers e n = absurd (n refl)

started_below : (p : List ℕ) → start_at p ≢ Some []
started_below [] e = cc
started_below (d ∷ ds) e = cc

started_covers : (p x q : List ℕ) → IsTrue (covers p x) → start_at p ≡ Some q → IsTrue (covers q x)
started_covers [] x q c e = cc
started_covers (d ∷ ds) x q c e = rw (← same_Some (d ∷ ds) q e) c

module _ (s : State) (o : IsStateInOrder s) (x : Xeid) (id : IsTrue (is_path (xeid_path x))) (p : List ℕ) (e : Entry) where
  found_servers : IsFound s.known (xeid_path x) p e → answer_of p e ≡ None → (0 < length e.servers) × (length e.servers ≤ 8) × IsTrue (covers p (xeid_path x))
  found_servers (inl found) none =
      let is : IsEntryInOrder s.known.time p e = o.known.entries p e found.value in
      (is.locator (positive e.action p e.servers none is.authoritative), is.few, found.covers_it)
  found_servers (inr root) none = rw (root.entry, root.everything) (o.root, o.known.few, refl)

  pub opening_lookup : IsFound s.known (xeid_path x) p e → answer_of p e ≡ None → IsLookup (opening x e.servers (start_at p))
  opening_lookup found none =
      let f = found_servers found none in
      record {
        identifier = id;
        place = f.0;
        few = f.1;
        saved = λ q h. cc;
        kept = λ r h. cc;
        kept_action = λ r h. cc;
        kept_place = λ r h. cc;
        start = λ q h. started_covers p (xeid_path x) q f.2 h;
        below_root = started_below p;
        once = λ h. cc;
      }

-- ---- a reply

-- a record that isn't NOT-AUTHORITATIVE covers the identifier that it is about
pub about_covers : (rec : ReferralRecord) (x : List ℕ) → IsAbout rec x → rec.action ≢ NotAuthoritative → IsTrue (covers rec.prefix x)
about_covers rec x (inl c) apart = c
about_covers rec x (inr is) apart = absurd (apart is)

pub referral_apart : (a : Action) → IsReferral a → a ≢ NotAuthoritative
referral_apart a (inl e) is = cc (e, is)
referral_apart a (inr e) is = cc (e, is)

pub few_servers : (s : State) (source : Locator) (bytes : List ℕ) (t : ℕ) (l : Pending) (rec : ReferralRecord) → IsTaken s source bytes t l rec → length rec.servers ≤ 8
few_servers s source bytes t l rec is =
    let told = is.in_time.from_server.reply.tells in
    rw (← told.same_record, length-take) (omega arith)

module _ (s : State) (o : IsStateInOrder s) (t : ℕ) (l : Pending) (here : get s.pending t ≡ Some l) where
  waiting : IsWaiting s t l
  waiting = o.lookups t l here

  module _ (source : Locator) (bytes : List ℕ) (rec : ReferralRecord) (is : IsTaken s source bytes t l rec) where
    pub referred_lookup : IsReferral rec.action → IsLookup (referred l rec)
    referred_lookup r =
        let w = waiting.lookup in
        let covered = about_covers rec (xeid_path l.x) is.about (referral_apart rec.action r) in
        record {
          identifier = w.identifier;
          place = is.names_server r;
          few = few_servers s source bytes t l rec is;
          saved = λ q h. rw (← same_Some rec.prefix q h) covered;
          kept = λ q h. cc;
          kept_action = λ q h. cc;
          kept_place = λ q h. cc;
          start = w.start;
          below_root = w.below_root;
          once = w.once;
        }

    pub passed_lookup : rec.action ≡ MsNotRegistered → l.server_index + 1 < length l.servers → IsLookup (passed_on l rec)
    passed_lookup a more =
        let w = waiting.lookup in
        let covered = about_covers rec (xeid_path l.x) is.about (λ no. cc (a, no)) in
        record {
          identifier = w.identifier;
          place = more;
          few = w.few;
          saved = w.saved;
          kept = λ q h. rw (← same_Some rec q h) covered;
          kept_action = λ q h. rw (← same_Some rec q h) a;
          kept_place = λ q h. omega arith;
          start = w.start;
          below_root = w.below_root;
          once = w.once;
        }

  pub restarted_lookup : IsLookup (started_over s l)
  restarted_lookup = record {
    identifier = waiting.lookup.identifier;
    place = o.root;
    few = o.known.few;
    saved = λ q h. cc;
    kept = λ q h. cc;
    kept_action = λ q h. cc;
    kept_place = λ q h. cc;
    start = λ q h. cc;
    below_root = λ h. cc;
    once = λ _. refl;
  }

  pub again_lookup : IsLookup (tried_again l)
  again_lookup = let w = waiting.lookup in record {
    identifier = w.identifier;
    place = w.place;
    few = w.few;
    saved = w.saved;
    kept = w.kept;
    kept_action = w.kept_action;
    kept_place = w.kept_place;
    start = w.start;
    below_root = w.below_root;
    once = w.once;
  }

  pub next_lookup : l.server_index + 1 < length l.servers → IsLookup (at_next l)
  next_lookup more = let w = waiting.lookup in record {
    identifier = w.identifier;
    place = more;
    few = w.few;
    saved = w.saved;
    kept = w.kept;
    kept_action = w.kept_action;
    kept_place = λ rec h. omega arith;
    start = w.start;
    below_root = w.below_root;
    once = w.once;
  }

-- ---- each case

module _ (s : State) (o : IsStateInOrder s) (call : ResolverCall) (new : State) (a : Reply) where
  staying : new ≡ s → progress_of a ≡ Stays → IsMoved s call new a
  staying e quiet = rw e (record { time = refl; me = refl; roots = refl; known = o.known; move = stays refl refl quiet })

  started : (x : Xeid) (r : Result Asked AskError) → IsTrue (is_path (xeid_path x)) → call ≡ Ask x → a ≡ ToAsk r → AskStep s x new r → IsMoved s call new a
  started x r id called is step = by step.start
    where
      by : ask.Start s x step.prefix step.entry new r → IsMoved s call new a
      by (ask.cached out some e f) = staying e (rw (is, f) refl)
      by (ask.full none many e f) = staying e (rw (is, f) refl)
      by (ask.used_up none few end e f) = staying e (rw (is, f) refl)
      by (ask.opened free e f) = rw e (record {
        time = refl;
        me = refl;
        roots = refl;
        known = o.known;
        move = opens (opening x step.entry.servers (start_at step.prefix)) called refl refl refl refl (opening_lookup s o x id step.prefix step.entry step.found free.unanswered) free.nonce free.few refl refl (is ∙ ap ToAsk f);
      })

  module _ (t : ℕ) (l : Pending) (here : get s.pending t ≡ Some l) where
    dropping : (end : Result Outcome Why) → new ≡ dropped s t → progress_of a ≡ Ends t end → Leaves s call t l end → IsMoved s call new a
    dropping end is ends leaves = rw is (record { time = refl; me = refl; roots = refl; known = o.known; move = drops t l end here refl refl ends leaves })

    sending : (k : Known) (m : Pending) → k.time ≡ s.known.time → k.roots ≡ s.known.roots → IsKnownInOrder k → new ≡ record (request_sent s t m) { known = k } → m.x ≡ l.x
        → Goes s call a t l m → IsLookup m → s.next < last_nonce → IsMoved s call new a
    sending k m time roots known e same goes is more = rw e (record { time = time; me = refl; roots = roots; known = known; move = sends t l m here same goes is more refl refl })

    module _ (source : Locator) (bytes : List ℕ) (rec : ReferralRecord) (is : IsTaken s source bytes t l rec) (h : Heard) (to : a ≡ ToDatagram h) (called : call ≡ Hear source bytes) where
      saved_known : IsKnownInOrder (stored s rec).known
      saved_known = stored_in_order s.known rec (few_servers s source bytes t l rec is) o.known

      takes : Takes s call t l rec
      takes = record { source = source; bytes = bytes; called = called; taken = is }

      saving : IsFinal rec.action → new ≡ dropped (stored s rec) t → h ≡ heard.Answer t (outcome_of rec) → IsMoved s call new a
      saving final e f = rw e (record { time = refl; me = refl; roots = refl; known = saved_known; move = drops t l (Ok (outcome_of rec)) here refl refl (rw (to, f) refl) (by_record rec takes final refl) })

      failing : (why : Why) → new ≡ dropped s t → h ≡ heard.GaveUp t why → Leaves s call t l (Err why) → IsMoved s call new a
      failing why e f = dropping (Err why) e (rw (to, f) refl)

      acted : act.Act s t l rec new h → IsMoved s call new a
      acted (act.loops r not_below e f) = failing Loop e f (by_loop rec takes r not_below refl)
      acted (act.refers r below more e f) =
          sending _ (referred l rec) refl refl saved_known e refl (anew (to ∙ ap ToDatagram f) refl refl refl) (referred_lookup s o t l here source bytes rec is r) more
      acted (act.acknowledges k e f) = saving (inl k) e f
      acted (act.closes k e f) = saving (inr (inr k)) e f
      acted (act.passes_on k more room e f) =
          sending _ (passed_on l rec) refl refl o.known e refl (keeps source bytes rec called is (to ∙ ap ToDatagram f) refl) (passed_lookup s o t l here source bytes rec is k more) room
      acted (act.concludes k end e f) = saving (inr (inl k)) e f
      acted (act.starts_over p k start room e f) =
          sending _ (started_over s l) refl refl (forgotten_in_order s.known p o.known) e refl (anew (to ∙ ap ToDatagram f) refl refl refl) (restarted_lookup s o t l here) room
      acted (act.nobody k start e f) = failing NobodyInCharge e f (by_nobody rec takes k start refl)
      acted (act.used_up on none e f) = failing Exhausted e f (by_nonce none refl)

    going : (h : Ticked) → a ≡ ToTick h → call ≡ Tick → l.deadline ≤ s.known.time → GoOn s t l new h → IsMoved s call new a
    going h to called over (tick.again first room e f) =
        sending _ (tried_again l) refl refl o.known e refl (repeats (to ∙ ap ToTick f) over first refl) (again_lookup s o t l here) room
    going h to called over (tick.next_place second more room e f) =
        sending _ (at_next l) refl refl o.known e refl (goes_on (to ∙ ap ToTick f) over second more refl) (next_lookup s o t l here more) room
    going h to called over (tick.answered rec second end kept e f) =
        dropping (Ok (NotRegistered rec.prefix rec.servers)) e (rw (to, f) refl) (by_kept rec (record { called = called; over = over; second = second; at_end = end }) kept refl)
    going h to called over (tick.no_reply second end kept e f) =
        dropping (Err NoReply) e (rw (to, f) refl) (by_silence (record { called = called; over = over; second = second; at_end = end }) kept refl)
    going h to called over (tick.used_up has none e f) = dropping (Err Exhausted) e (rw (to, f) refl) (by_nonce none refl)

  heard_move : (source : Locator) (bytes : List ℕ) (h : Heard) → call ≡ Hear source bytes → a ≡ ToDatagram h → HearStep s source bytes new h → IsMoved s call new a
  heard_move source bytes h called to (act.ignored why is e f) = staying e (rw (to, f) refl)
  heard_move source bytes h called to (act.taken t l rec is does) = acted t l is.in_time.from_server.reply.is_pending source bytes rec is h to called does

  ticked_move : (h : Ticked) → a ≡ ToTick h → call ≡ Tick → TickStep s new h → IsMoved s call new a
  ticked_move h to called (tick.nothing none e f) = staying e (rw (to, f) refl)
  ticked_move h to called (tick.due t l is on) = going t l is.is_pending h to called is.over on

  pub moved_by_step : Step s call new a → IsMoved s call new a
  moved_by_step (asks x r id step called to) = started x r id called to step
  moved_by_step (hears source bytes h step called to) = heard_move source bytes h called to step
  moved_by_step (ticks h step called to) = ticked_move h to called step
