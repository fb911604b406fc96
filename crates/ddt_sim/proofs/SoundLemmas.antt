-- Each step keeps a resolver sound, and answers what the register assigns.
use Rattle.std.proofs.Common.{◌≡◌, ℕ, ◌<◌, Bool, cond, true, false, List, length, Some, None, refl, sym, ap, ◌∙◌, subst, arith, inl, inr, ◌⊎◌, Contains}
use Rattle.std.specs.Prelude.{◌≢◌, IsTrue, max}
use Rattle.std.specs.FinMap.{get, insert}
use Rattle.std.proofs.lemmas.Option.{none-some, same_Some}
use Rattle.std.proofs.lemmas.Bool.{false≢true}
use Rattle.ddt_path.specs.declared.locator.Locator.{Locator}
use Rattle.ddt_path.specs.declared.record.Role.TheVariants.{Node, Ms}
use Rattle.ddt_path.specs.declared.action.Action.{Action}
use Rattle.ddt_path.specs.declared.action.Action.TheVariants.{MsAck, MsNotRegistered, DelegationHole, NotAuthoritative}
use Rattle.ddt_path.specs.declared.record.Outcome.{Outcome}
use Rattle.ddt_path.specs.declared.record.Outcome.TheVariants.{Registered, NotRegistered}
use Rattle.ddt_path.specs.declared.record.ReferralRecord.{ReferralRecord}
use Rattle.ddt_path.specs.declared.xeid.Xeid.{Xeid}
use Rattle.ddt_path.specs.Records.{record_of, referral_action}
use Rattle.ddt_path.specs.Covers.{covers}
use Rattle.ddt_path.specs.Path.{xeid_path, is_path}
use Rattle.ddt_path.specs.Locators.{lists}
use Rattle.ddt_path.specs.laws.Cover.{covers_trans}
use Rattle.ddt_path.specs.laws.Locator.{lists_at}
use Rattle.ddt_path.specs.laws.Action.{ack_is}
use Rattle.ddt_register.specs.declared.zone.Zone.{Zone}
use Rattle.ddt_register.specs.declared.register.Register.{Register}
use Rattle.ddt_check.specs.Zones.{locators_of}
use Rattle.ddt_check.specs.Assignment.{assignment}
use Rattle.ddt_check.specs.Says.{says}
use Rattle.ddt_check.specs.laws.Statements.{IsFinal, IsItsZone, negative_prefix, EachIdentifierHasOneZone, TheRootIsServed, ServersReferDownwards, ReferralsAreToZones, FinalAnswersAreTheAssignment, RegisteredPrefixesAreSites, NegativesHoldOfAll}
use Rattle.ddt_trie.specs.laws.Map.{found_after_insert}
use Rattle.ddt_cache.specs.declared.cache_entry.Entry.{Entry}
use Rattle.ddt_cache.specs.Entry.{is_negative, entry_of}
use Rattle.ddt_cache.specs.Found.{IsFound}
use Rattle.ddt_cache.specs.Saved.{is_saved}
use Rattle.ddt_cache.specs.laws.Live.{live_at-is, remove_was_there}
use Rattle.ddt_resolver.specs.declared.pending.Pending.{Pending}
use Rattle.ddt_path.specs.Actions.{IsReferral}
use Rattle.ddt_resolver.specs.Records.{IsBelow, outcome_at, outcome_of, negative_answer, start_at}
use Rattle.ddt_resolver.specs.State.{State, moved, server, request_sent, dropped, stored, forgotten, opening, referred, passed_on, tried_again, at_next}
use Rattle.ddt_resolver.specs.AskStep.{AskStep, Start, cached, full, used_up, opened, answer_of}
use Rattle.ddt_resolver.specs.Act as acts
use Rattle.ddt_resolver.specs.Act.{Act, HearStep}
use Rattle.ddt_resolver.specs.TickStep as ticks
use Rattle.ddt_resolver.specs.TickStep.{GoOn, TickStep, HastenStep}
use Rattle.ddt_resolver.specs.Step as steps
use Rattle.ddt_resolver.specs.Step.{ResolverCall, Step, Hear}
use Rattle.ddt_resolver.specs.Order.{IsStateInOrder}
use Rattle.ddt_resolver.specs.laws.NumberMap.{found_insert, found_remove}
use Rattle.ddt_sim.specs.Sound.{IsTrueEntry, delegates, registers, denies, IsNotRegistered, IsSoundLookup, IsSound, IsFair, IsRight, IsRightAsked, IsRightHeard, IsRightTicked, IsRightEnd}

-- the laws of a register that keep a resolver sound
pub record KeepsLaws (r : Register) : Type 0 where
  pub zones : EachIdentifierHasOneZone r
  pub root : TheRootIsServed r
  pub downwards : ServersReferDownwards r
  pub to_zones : ReferralsAreToZones r
  pub decided : FinalAnswersAreTheAssignment r
  pub sites : RegisteredPrefixesAreSites r
  pub negatives : NegativesHoldOfAll r

-- ---- what an action means

-- an action with an answer of its own is negative, and the answer is its outcome
pub negative_is : (a : Action) (p : List ℕ) (ls : List Locator) (o : Outcome) → negative_answer a p ls ≡ Some o → IsTrue (is_negative a) × (o ≡ outcome_at a p ls)
negative_is MsNotRegistered p ls o e = (refl, sym (same_Some _ o e))
negative_is DelegationHole p ls o e = (refl, sym (same_Some _ o e))
negative_is _ p ls o e = absurd (none-some o e)

-- a negative action has one
unanswered_not_negative : (a : Action) (p : List ℕ) (ls : List Locator) → negative_answer a p ls ≡ None → IsTrue (is_negative a) → ⊥
unanswered_not_negative MsNotRegistered p ls e h = none-some _ (sym e)
unanswered_not_negative DelegationHole p ls e h = none-some _ (sym e)
unanswered_not_negative _ p ls e h = false≢true h

pub referral_not_negative : (k : _) → is_negative (referral_action k) ≡ false
referral_not_negative Node = refl
referral_not_negative Ms = refl

-- a record of an outcome says that outcome
pub outcome_back : (o : Outcome) → outcome_of (record_of o) ≡ o
outcome_back (Registered p s) = refl
outcome_back _ = refl

-- a record of an outcome that no ETR is registered for is of such a site
unregistered_is : (o : Outcome) → (record_of o).action ≡ MsNotRegistered → (p : List ℕ) × (servers : List Locator) × (o ≡ NotRegistered p servers)
unregistered_is (NotRegistered p s) e = (p, s, refl)
unregistered_is _ e = absurd (cc e)

pub unregistered_record : (r : Register) (x : List ℕ) (rec : ReferralRecord) → rec ≡ record_of (assignment r x) → rec.action ≡ MsNotRegistered → IsNotRegistered r x rec
unregistered_record r x rec is k =
    let h = unregistered_is (assignment r x) (ap (λ (v : ReferralRecord). v.action) (sym is) ∙ k) in
    (h.0, h.1, h.2, is ∙ ap record_of h.2)

-- what a kept record is answered as is the assignment
pub kept_is : (r : Register) (x : List ℕ) (rec : ReferralRecord) → IsNotRegistered r x rec → NotRegistered rec.prefix rec.servers ≡ assignment r x
kept_is r x rec h = ap (λ (v : ReferralRecord). NotRegistered v.prefix v.servers) h.3 ∙ sym h.2

pub negative_of : (o : Outcome) → IsTrue (is_negative (record_of o).action) → negative_prefix o ≡ Some (record_of o).prefix
negative_of (Registered p s) e = absurd (false≢true e)
negative_of _ e = refl

-- ---- changes of a sound state

-- a lookup at the first server of a set is sound where that is the set of a zone of its identifier
at_zone : {r : Register} {l : Pending} (z : Zone) → Contains r.zones z → IsTrue (covers z.prefix (xeid_path l.x)) → l.servers ≡ locators_of r z.group
    → (l.last_referral ≡ None) ⊎ (l.last_referral ≡ Some z.prefix) → l.last_not_registered ≡ None → IsSoundLookup r l
at_zone z is over servers saved none =
    record { zone = z; is_zone = is; covers_x = over; servers = servers; saved = saved; kept = λ rec h. absurd (none-some rec (sym none ∙ h)) }

-- so is one that differs from a sound one in nothing of this, but for what it keeps
same_set : {r : Register} {l m : Pending} → IsSoundLookup r l → m.x ≡ l.x → m.servers ≡ l.servers → m.last_referral ≡ l.last_referral
    → ((rec : ReferralRecord) → m.last_not_registered ≡ Some rec → IsNotRegistered r (xeid_path l.x) rec) → IsSoundLookup r m
same_set i x servers saved kept =
    record { zone = i.zone; is_zone = i.is_zone; covers_x = rw x i.covers_x; servers = servers ∙ i.servers; saved = rw saved i.saved; kept = rw x kept }

module _ (r : Register) (s : State) (i : IsSound r s) where
  pub sound_dropped : (t : ℕ) → IsSound r (dropped s t)
  sound_dropped t = record { root = i.root; entries = i.entries; lookups = λ u l found. i.lookups u l (found_remove s.pending t u l found).1 }

  pub sound_request_sent : (t : ℕ) (l : Pending) → IsSoundLookup r l → IsSound r (request_sent s t l)
  sound_request_sent t l sound = record {
    root = i.root;
    entries = i.entries;
    lookups = λ u m found. elim (found_insert s.pending t _ u m found) [ inl e ↦ rw (← e.1) (same_set sound refl refl refl sound.kept) | inr e ↦ i.lookups u m e.1 ];
  }

  pub sound_moved : (now : ℕ) → IsSound r (moved now s)
  sound_moved now = record { root = i.root; lookups = i.lookups; entries = λ p e found. i.entries p e (live_at-is (max s.known.time now) s.known.live p e found).0 }

  -- what is left where a prefix is forgotten was remembered
  pub sound_forgotten : (p : List ℕ) → IsSound r (forgotten s p)
  sound_forgotten p = record { root = i.root; lookups = i.lookups; entries = λ q e found. i.entries q e (remove_was_there s.known.live p q e found) }

  -- a true record may be saved
  pub sound_stored : (rec : ReferralRecord) → IsTrueEntry r rec.prefix (entry_of s.known.time rec) → IsSound r (stored s rec)
  sound_stored rec true_entry = record { root = i.root; lookups = i.lookups; entries = λ p e found. by p e (is_saved s.known.live rec) found }
    where
      by : (p : List ℕ) (e : Entry) (b : Bool) → get (cond b (insert s.known.live rec.prefix (entry_of s.known.time rec)) s.known.live) p ≡ Some e → IsTrueEntry r p e
      by p e false found = i.entries p e found
      by p e true found =
          elim (found_after_insert s.known.live rec.prefix _ p e found) [ inl put ↦ rw (put.0, ← put.1) true_entry | inr there ↦ i.entries p e there ]

-- ---- a step

module _ (r : Register) (laws : KeepsLaws r) (s : State) (o : IsStateInOrder s) (i : IsSound r s) where
  -- the servers with which a lookup begins are those of a zone of its identifier
  pub begun : (x : Xeid) (p : List ℕ) (e : Entry) → IsFound s.known (xeid_path x) p e → answer_of p e ≡ None → IsSoundLookup r (opening x e.servers (start_at p))
  begun x p e (inr root) free = let z = laws.root in at_zone z.0 z.1.is_zone (rw z.1.is_everything refl) (rw root.entry (i.root ∙ sym z.1.its_servers)) (inl refl) refl
  begun x p e (inl found) free = by (i.entries p e found.value)
    where
      by : IsTrueEntry r p e → IsSoundLookup r (opening x e.servers (start_at p))
      by (delegates z is same action servers) = at_zone z is (rw same found.covers_it) servers (inl refl) refl
      by (registers site z is same action its_zone servers) =
          let h = laws.zones p in
          let own : IsItsZone r p z = subst (IsItsZone r p) (same_Some h.0 z (sym h.1 ∙ its_zone)) h.2 in
          at_zone z own.is_zone (covers_trans z.prefix p (xeid_path x) own.covers_it found.covers_it) servers (inl refl) refl
      by (denies neg h) = absurd (unanswered_not_negative e.action p e.servers free neg)

  -- an entry that answers by itself answers the assignment
  remembered : (x : Xeid) (p : List ℕ) (e : Entry) (v : Outcome) → IsTrue (is_path (xeid_path x)) → IsFound s.known (xeid_path x) p e → answer_of p e ≡ Some v → v ≡ assignment r (xeid_path x)
  remembered x p e v id (inr root) answer = absurd (none-some v (rw root.entry at answer))
  remembered x p e v id (inl found) answer = by (i.entries p e found.value)
    where
      own : IsTrue (is_negative e.action) × (v ≡ outcome_at e.action p e.servers)
      own = negative_is e.action p e.servers v answer

      by : IsTrueEntry r p e → v ≡ assignment r (xeid_path x)
      by (denies neg h) = own.1 ∙ sym (h (xeid_path x) id found.covers_it)
      by (delegates z is same action servers) = absurd (false≢true (sym (ap is_negative action ∙ referral_not_negative z.kind) ∙ own.0))
      by (registers site z is same action its_zone servers) = absurd (false≢true (sym (ap is_negative action) ∙ own.0))

  started : (x : Xeid) (new : State) (a : _) → IsTrue (is_path (xeid_path x)) → AskStep s x new a → IsSound r new × IsRightAsked r (xeid_path x) a
  started x new a id step = by step.start
    where
      by : Start s x step.prefix step.entry new a → IsSound r new × IsRightAsked r (xeid_path x) a
      by (cached v answer e f) = rw (e, f) (i, remembered x step.prefix step.entry v id step.found answer)
      by (full none many e f) = rw (e, f) (i, tt)
      by (used_up none few over e f) = rw (e, f) (i, tt)
      by (opened free e f) = rw (e, f) (sound_request_sent r s i s.next _ (begun x step.prefix step.entry step.found free.unanswered), tt)

  module _ (t : ℕ) (l : Pending) (here : get s.pending t ≡ Some l) where
    z : IsSoundLookup r l
    z = i.lookups t l here

    abbrev x : List ℕ
    x = xeid_path l.x

    -- what the register says at the server that was asked, which lists its locator for the zone
    abbrev rec : ReferralRecord
    rec = says r (server s.me l) x

    ended : (v : Outcome) → v ≡ assignment r x → IsRightEnd r s t v
    ended v is m found = is ∙ ap (λ (p : Pending). assignment r (xeid_path p.x)) (same_Some l m (sym here ∙ found))

    down : (rec.action ≢ NotAuthoritative) × (IsReferral rec.action → length z.zone.prefix < length rec.prefix)
    down = laws.downwards z.zone (server s.me l) x z.is_zone z.covers_x
        (subst (λ (set : List Locator). IsTrue (lists set (server s.me l))) z.servers (lists_at l.servers l.server_index s.me (o.lookups t l here).lookup.place))

    below : IsReferral rec.action → IsBelow l.last_referral rec.prefix
    below k = elim z.saved [ inl none ↦ rw none (omega arith) | inr saved ↦ rw saved (down.1 k) ]

    final : IsFinal rec.action → rec ≡ record_of (assignment r x)
    final k = laws.decided (server s.me l) x k

    gives : IsFinal rec.action → outcome_of rec ≡ assignment r x
    gives k = ap outcome_of (final k) ∙ outcome_back (assignment r x)

    ack_entry : rec.action ≡ MsAck → IsTrueEntry r rec.prefix (entry_of s.known.time rec)
    ack_entry k =
        let f = final (inl k) in
        let h = laws.sites x rec.prefix rec.servers (rw (← f) at (ack_is (assignment r x) (rw f at k))) in
        registers h.site h.zone h.is_site h.its_prefix k h.its_zone h.its_servers

    negative_entry : IsFinal rec.action → IsTrue (is_negative rec.action) → IsTrueEntry r rec.prefix (entry_of s.known.time rec)
    negative_entry k neg =
        let f = final k in
        let h = laws.negatives x rec.prefix (o.lookups t l here).lookup.identifier (rw f (negative_of (assignment r x) (rw f at neg))) in
        denies neg (λ y y_id c. h.1 y y_id c ∙ sym (gives k))

    -- a record that is saved and answered
    closed : IsFinal rec.action → IsTrueEntry r rec.prefix (entry_of s.known.time rec) → IsSound r (dropped (stored s rec) t) × IsRightEnd r s t (outcome_of rec)
    closed k entry = (sound_dropped r (stored s rec) (sound_stored r s i rec entry) t, ended (outcome_of rec) (gives k))

    acted : (new : State) (heard : _) → Act s t l rec new heard → IsSound r new × IsRightHeard r s heard
    acted new heard (acts.loops k loop e f) = absurd (loop (below k))
    acted new heard (acts.refers k lower more e f) =
        let h = laws.to_zones (server s.me l) x k in
        let entry : IsTrueEntry r rec.prefix (entry_of s.known.time rec) = rw h.3 (delegates h.0 h.1 refl refl refl) in
        rw (e, f) (sound_request_sent r (stored s rec) (sound_stored r s i rec entry) t (referred l rec) (at_zone h.0 h.1 h.2 (rw h.3 refl) (inr (rw h.3 refl)) refl), tt)
    acted new heard (acts.acknowledges k e f) = rw (e, f) (closed (inl k) (ack_entry k))
    acted new heard (acts.closes k e f) = rw (e, f) (closed (inr (inr k)) (negative_entry (inr (inr k)) (rw k refl)))
    acted new heard (acts.passes_on k more room e f) =
        let kept = λ (own : ReferralRecord) (h : Some rec ≡ Some own). subst (IsNotRegistered r x) (same_Some rec own h) (unregistered_record r x rec (final (inr (inl k))) k) in
        rw (e, f) (sound_request_sent r s i t (passed_on l rec) (same_set z refl refl refl kept), tt)
    acted new heard (acts.concludes k last e f) = rw (e, f) (closed (inr (inl k)) (negative_entry (inr (inl k)) (rw k refl)))
    acted new heard (acts.starts_over p k start room e f) = absurd (down.0 k)
    acted new heard (acts.nobody k start e f) = absurd (down.0 k)
    acted new heard (acts.used_up k over e f) = rw (e, f) (sound_dropped r s i t, inr refl)

    went_on : (new : State) (ticked : _) → GoOn s t l new ticked → IsSound r new × IsRightTicked r s ticked
    went_on new ticked (ticks.again first room e f) = rw (e, f) (sound_request_sent r s i t (tried_again l) (same_set z refl refl refl z.kept), tt)
    went_on new ticked (ticks.next_place second more room e f) = rw (e, f) (sound_request_sent r s i t (at_next l) (same_set z refl refl refl z.kept), tt)
    went_on new ticked (ticks.answered rec second last kept e f) = rw (e, f) (sound_dropped r s i t, ended (NotRegistered rec.prefix rec.servers) (kept_is r x rec (z.kept rec kept)))
    went_on new ticked (ticks.no_reply second last none e f) = rw (e, f) (sound_dropped r s i t, inl refl)
    went_on new ticked (ticks.used_up more over e f) = rw (e, f) (sound_dropped r s i t, inr refl)

  pub sound_step : (call : _) (new : State) (reply : _) → IsFair r s call → Step s call new reply → IsSound r new × IsRight r s call reply
  sound_step call new reply fair (steps.asks x a id step e f) = rw (e, f) (started x new a id step)
  sound_step call new reply fair (steps.hears source bytes heard (acts.ignored why ignores same is) e f) = rw (e, f, same, is) (i, tt)
  sound_step call new reply fair (steps.hears source bytes heard (acts.taken t l rec taken act) e f) =
      let from = taken.in_time.from_server in
      let honest : rec ≡ says r (server s.me l) (xeid_path l.x) = rw from.same_source at ((rw e at fair) t l rec taken) in
      rw (e, f) (acted t l from.reply.is_pending new heard (subst (λ v. Act s t l v new heard) honest act))
  sound_step call new reply fair (steps.ticks ticked (ticks.nothing none same is) e f) = rw (e, f, same, is) (i, tt)
  sound_step call new reply fair (steps.ticks ticked (ticks.due t l due on) e f) = rw (e, f) (went_on t l due.is_pending new ticked on)

  pub sound_hastened : (nonce : ℕ) (new : State) (ticked : _) → HastenStep s nonce new ticked → IsSound r new × IsRightTicked r s ticked
  sound_hastened nonce new ticked (ticks.unknown none e f) = rw (e, f) (i, tt)
  sound_hastened nonce new ticked (ticks.hastened t l here its on) = went_on t l here new ticked on
