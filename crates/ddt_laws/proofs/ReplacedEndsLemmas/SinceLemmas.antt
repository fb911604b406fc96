-- What a pending lookup has kept was true at a moment since it began, and so is what it ends with.
use Rattle.std.proofs.Common.{◌≡◌, ℕ, ◌+◌, ◌≤◌, Bool, true, false, cond, List, Some, None, Result, Ok, refl, sym, ap, subst, ◌∙◌, arith, inl, inr}
use Rattle.std.specs.Prelude.{nat_lt}
use Rattle.std.specs.FinMap.{get, insert, remove}
use Rattle.std.proofs.lemmas.Bool.{cond-true, cond-false, lt-ltb, le-ltb}
use Rattle.std.proofs.lemmas.Option.{none-some, same_Some}
use Rattle.ddt_path.specs.declared.action.Action.TheVariants.{MsNotRegistered}
use Rattle.ddt_path.specs.declared.locator.Locator.{Locator}
use Rattle.ddt_path.specs.declared.record.Outcome.{Outcome}
use Rattle.ddt_path.specs.declared.record.Outcome.TheVariants.{NotRegistered}
use Rattle.ddt_path.specs.declared.record.ReferralRecord.{ReferralRecord}
use Rattle.ddt_path.specs.Path.{xeid_path}
use Rattle.ddt_register.specs.declared.register.Register.{Register}
use Rattle.ddt_check.specs.laws.Statements.{FinalAnswersAreTheAssignment}
use Rattle.ddt_cache.specs.Moment.{last_moment}
use Rattle.ddt_sockets.specs.declared.wire_calls.Call.{Call}
use Rattle.ddt_resolver.specs.declared.pending.Pending.{Pending}
use Rattle.ddt_resolver.specs.declared.results.Ticked.{Ticked}
use Rattle.ddt_resolver.specs.declared.results.Why.{Why}
use Rattle.ddt_resolver.specs.declared.step.Reply.{Reply}
use Rattle.ddt_resolver.specs.declared.step.Reply.TheVariants.{ToTick}
use Rattle.ddt_resolver.specs.declared.step.Progress.TheVariants.{Ends}
use Rattle.ddt_resolver.specs.MatchReply.{IsTaken}
use Rattle.ddt_resolver.specs.Order.{IsLookup, IsStateInOrder}
use Rattle.ddt_resolver.specs.Records.{outcome_at, outcome_of}
use Rattle.ddt_resolver.specs.State.{State, moved, numbered, tried_again, at_next, reply_timeout_ms}
use Rattle.ddt_resolver.specs.Step.{ResolverCall, Hear, Step, progress_of}
use Rattle.ddt_resolver.specs.TickStep.{GoOn, again, next_place, answered, no_reply, used_up, HastenStep, unknown}
use Rattle.ddt_resolver.specs.TickStep.{hastened as its_hastened}
use Rattle.ddt_resolver.specs.laws.NumberMap.{found_insert, found_remove}
use Rattle.ddt_resolver.specs.laws.Order.{order_moved}
use Rattle.ddt_resolver.specs.laws.Shape as moves
use Rattle.ddt_resolver.specs.laws.Shape.{Move, Goes, Takes, Leaves, goes_sends, moved_by_step}
use Rattle.ddt_sim.specs.laws.Ticket.{PendingFrom, stayed, opened, went_on, pending_from}
use Rattle.ddt_laws.specs.ReplacedEnds.{WasTrue}
use Rattle.ddt_laws.proofs.PositiveEndsLemmas.ChangeLemmas.{Change, same, later, stepped, hastened}
use Rattle.ddt_laws.proofs.ReplacedEndsLemmas.SaidLemmas.{Told, said_true}

-- lookups that began at these times asked since then, and what they have kept was true since then
pub record Since (in_force : ℕ → Register) (begun : ℕ → ℕ) (s : State) : Type 0 where
  pub asked : (t : ℕ) (l : Pending) → get s.pending t ≡ Some l → begun t + reply_timeout_ms ≤ l.deadline
  pub past : (t : ℕ) (l : Pending) → get s.pending t ≡ Some l → begun t ≤ s.known.time
  pub kept : (t : ℕ) (l : Pending) (rec : ReferralRecord) → get s.pending t ≡ Some l → l.last_not_registered ≡ Some rec
      → WasTrue in_force (begun t) s.known.time (xeid_path l.x) (NotRegistered rec.prefix rec.servers)

pub since_first : {in_force : ℕ → Register} {begun : ℕ → ℕ} (s : State) → ((t : ℕ) → get s.pending t ≡ None) → Since in_force begun s
since_first s rest = record {
  asked = λ t l here. absurd (cc (rest t, here));
  past = λ t l here. absurd (cc (rest t, here));
  kept = λ t l rec here. absurd (cc (rest t, here));
}

-- the times at which lookups began, where others begin now
abbrev pub begun_on : (ℕ → ℕ) → State → ℕ → ℕ → ℕ
begun_on begun s time t = cond (nat_lt t s.next) (begun t) time

true_longer : {in_force : ℕ → Register} {since until later_ : ℕ} {x : List ℕ} {o : Outcome} → until ≤ later_ → WasTrue in_force since until x o → WasTrue in_force since later_ x o
true_longer le h = let one = h.2 in (h.0, h.1, omega (arith, one, le), h.3)

pub since_longer : {in_force : ℕ → Register} {begun : ℕ → ℕ} {s new : State} → new.pending ≡ s.pending → s.known.time ≤ new.known.time → Since in_force begun s → Since in_force begun new
since_longer {new = new} same_pending le h = record {
  asked = λ t l here. h.asked t l (rw same_pending at here);
  past = λ t l here. let one = h.past t l (rw same_pending at here) in omega (arith, one, le);
  kept = λ t l rec here is. true_longer le (h.kept t l rec (rw same_pending at here) is);
}

-- ---- a step

module _ {in_force : ℕ → Register} {begun : ℕ → ℕ} {s : State} (o : IsStateInOrder s) (h : Since in_force begun s) (decided : (at : ℕ) → FinalAnswersAreTheAssignment (in_force at)) where
  abbrev T : ℕ
  T = s.known.time

  abbrev B : ℕ → ℕ
  B = begun_on begun s T

  -- one that was pending began before
  old_begun : (t : ℕ) (l : Pending) → get s.pending t ≡ Some l → B t ≡ begun t
  old_begun t l here = let w = o.lookups t l here in cond-true (nat_lt t s.next) (begun t) T (lt-ltb t s.next (omega (arith, w.ticket, w.nonce)))

  new_begun : (t : ℕ) → t ≡ s.next → B t ≡ T
  new_begun t is = cond-false (nat_lt t s.next) (begun t) T (le-ltb t s.next (omega arith))

  -- what holds of one that is pending after it
  abbrev Was_kept : (t : ℕ) (l : Pending) → Type 0
  Was_kept t l =
      (B t + reply_timeout_ms ≤ l.deadline) × (B t ≤ T)
      × ((rec : ReferralRecord) → l.last_not_registered ≡ Some rec → WasTrue in_force (B t) T (xeid_path l.x) (NotRegistered rec.prefix rec.servers))

  kept_old : (t : ℕ) (l : Pending) → get s.pending t ≡ Some l → Was_kept t l
  kept_old t l here = rw (old_begun t l here) (h.asked t l here, h.past t l here, λ rec is. h.kept t l rec here is)

  -- one that has sent its request now
  sent_now : (t : ℕ) (old k l : Pending) → get s.pending t ≡ Some old → numbered s k ≡ l
      → ((rec : ReferralRecord) → k.last_not_registered ≡ Some rec → WasTrue in_force (begun t) T (xeid_path k.x) (NotRegistered rec.prefix rec.servers)) → Was_kept t l
  sent_now t old k l here is kept =
      let le = h.past t old here in
      rw (old_begun t old here) (subst (λ (m : Pending). (begun t + reply_timeout_ms ≤ m.deadline) × (begun t ≤ T)
      × ((rec : ReferralRecord) → m.last_not_registered ≡ Some rec → WasTrue in_force (begun t) T (xeid_path m.x) (NotRegistered rec.prefix rec.servers))) is
      (omega (arith, le), le, kept))

  same_kept : (t : ℕ) (old k : Pending) → get s.pending t ≡ Some old → k.x ≡ old.x → k.last_not_registered ≡ old.last_not_registered
      → (rec : ReferralRecord) → k.last_not_registered ≡ Some rec → WasTrue in_force (begun t) T (xeid_path k.x) (NotRegistered rec.prefix rec.servers)
  same_kept t old k here x keeps rec is = rw x (h.kept t old rec here (sym keeps ∙ is))

  -- a record that is heard was true since the lookup began
  heard_true : (source : Locator) (bytes : List ℕ) → Told in_force s (Hear source bytes) → (t : ℕ) (l : Pending) (rec : ReferralRecord) → IsTaken s source bytes t l rec → moves.IsFinal rec.action
      → WasTrue in_force (begun t) T (xeid_path l.x) (outcome_of rec)
  heard_true source bytes told t l rec is final =
      let say = told t l rec is in
      let first = h.asked t l is.in_time.from_server.reply.is_pending in
      let one = say.1 in
      (say.0, omega (arith, first, one), say.2, said_true (in_force say.0) (decided say.0) source (xeid_path l.x) rec say.3 final)

  goes_kept : (call : ResolverCall) (a : Reply) (t : ℕ) (old k : Pending) → Told in_force s call → get s.pending t ≡ Some old → k.x ≡ old.x → Goes s call a t old k → IsLookup k
      → (rec : ReferralRecord) → k.last_not_registered ≡ Some rec → WasTrue in_force (begun t) T (xeid_path k.x) (NotRegistered rec.prefix rec.servers)
  goes_kept call a t old k told here x (moves.anew f place first empty) lookup rec is = absurd (none-some rec (sym empty ∙ is))
  goes_kept call a t old k told here x (moves.keeps source bytes r called taken f e) lookup rec is =
      let one : r ≡ rec = same_Some r rec (sym (ap (λ (z : Pending). z.last_not_registered) e) ∙ is) in
      let acts : r.action ≡ MsNotRegistered = rw one (lookup.kept_action rec is) in
      let out = heard_true source bytes (rw called at told) t old r taken (inr (inl acts)) in
      let says_it : outcome_of r ≡ NotRegistered r.prefix r.servers = ap (λ a. outcome_at a r.prefix r.servers) acts in
      rw (x, ← one) (rw says_it at out)
  goes_kept call a t old k told here x (moves.repeats f over first e) lookup rec is = same_kept t old k here x (rw e refl) rec is
  goes_kept call a t old k told here x (moves.goes_on f over second more e) lookup rec is = same_kept t old k here x (rw e refl) rec is

  from_step : (call : ResolverCall) (a : Reply) (t : ℕ) (l : Pending) → Told in_force s call → PendingFrom s call a t l → Was_kept t l
  from_step call a t l told (stayed there other) = kept_old t l there
  from_step call a t l told (opened k own fresh called place first empty f) =
      rw (new_begun t fresh) (subst (λ (m : Pending). (T + reply_timeout_ms ≤ m.deadline) × (T ≤ T)
      × ((rec : ReferralRecord) → m.last_not_registered ≡ Some rec → WasTrue in_force T T (xeid_path m.x) (NotRegistered rec.prefix rec.servers))) own
      (omega arith, omega arith, λ rec is. absurd (none-some rec (sym empty ∙ is))))
  from_step call a t l told (went_on old k own there x goes lookup) = sent_now t old k l there own (goes_kept call a t old k told there x goes lookup)

  -- so it is for all of them
  of_records : (new : State) → new.known.time ≡ T → ((t : ℕ) (l : Pending) → get new.pending t ≡ Some l → Was_kept t l) → Since in_force B new
  of_records new time each = record {
    asked = λ t l here. (each t l here).0;
    past = λ t l here. rw time (each t l here).1;
    kept = λ t l rec here is. rw time ((each t l here).2 rec is);
  }

  since_step : (call : ResolverCall) (new : State) (a : Reply) → Told in_force s call → Step s call new a → Since in_force B new
  since_step call new a told step =
      let m = moved_by_step s o call new a step in
      of_records new m.time (λ t l here. from_step call a t l told (pending_from m.move t l here))

  -- ---- a lookup that is hastened

  from_sent : (u : ℕ) (old k : Pending) → get s.pending u ≡ Some old → k.x ≡ old.x → k.last_not_registered ≡ old.last_not_registered → (new : State) → new.pending ≡ insert s.pending u (numbered s k)
      → (t : ℕ) (l : Pending) → get new.pending t ≡ Some l → Was_kept t l
  from_sent u old k here x keeps new put t l found =
      elim (found_insert s.pending u (numbered s k) t l (rw put at found)) [
        | inl e ↦ sent_now t old k l (rw e.0 here) e.1 (same_kept t old k (rw e.0 here) x keeps)
        | inr e ↦ kept_old t l e.1
      ]

  from_dropped : (u : ℕ) (new : State) → new.pending ≡ remove s.pending u → (t : ℕ) (l : Pending) → get new.pending t ≡ Some l → Was_kept t l
  from_dropped u new gone t l found = kept_old t l (found_remove s.pending u t l (rw gone at found)).1

  went : (u : ℕ) (m : Pending) → get s.pending u ≡ Some m → (new : State) (ticked : Ticked) → GoOn s u m new ticked → Since in_force B new
  went u m here new ticked (again first more e f) = of_records new (rw e refl) (from_sent u m (tried_again m) here refl refl new (rw e refl))
  went u m here new ticked (next_place second room more e f) = of_records new (rw e refl) (from_sent u m (at_next m) here refl refl new (rw e refl))
  went u m here new ticked (answered rec second last is_kept e f) = of_records new (rw e refl) (from_dropped u new (rw e refl))
  went u m here new ticked (no_reply second last none e f) = of_records new (rw e refl) (from_dropped u new (rw e refl))
  went u m here new ticked (used_up has none e f) = of_records new (rw e refl) (from_dropped u new (rw e refl))

  since_haste : (nonce : ℕ) (new : State) (ticked : Ticked) → HastenStep s nonce new ticked → Since in_force B new
  since_haste nonce new ticked (unknown none e f) = of_records new (rw e refl) (λ t l here. kept_old t l (rw e at here))
  since_haste nonce new ticked (its_hastened t l here its on) = went t l here new ticked on

  -- ---- the end of a lookup

  module _ (t : ℕ) (out : Outcome) (l : Pending) (here : get s.pending t ≡ Some l) where
    abbrev Was : Type 0
    Was = WasTrue in_force (begun t) T (xeid_path l.x) out

    by_leaves : (call : ResolverCall) → Told in_force s call → (end : Result Outcome Why) → end ≡ Ok out → Leaves s call t l end → Was
    by_leaves call told end is (moves.by_record rec takes final e) =
        let same_out : outcome_of rec ≡ out = cc (is, e) in
        rw same_out at (heard_true takes.source takes.bytes (rw takes.called at told) t l rec takes.taken final)
    by_leaves call told end is (moves.by_kept rec due is_kept e) =
        let same_out : NotRegistered rec.prefix rec.servers ≡ out = cc (is, e) in
        rw same_out at (h.kept t l rec here is_kept)
    by_leaves call told end is (moves.by_loop rec takes refers not e) = absurd (cc (is, e))
    by_leaves call told end is (moves.by_nobody rec takes not none e) = absurd (cc (is, e))
    by_leaves call told end is (moves.by_silence due none e) = absurd (cc (is, e))
    by_leaves call told end is (moves.by_nonce none e) = absurd (cc (is, e))

    by_move : (call : ResolverCall) (new : State) (a : Reply) → Told in_force s call → progress_of a ≡ Ends t (Ok out) → Move s call new a → Was
    by_move call new a told ends (moves.stays pending next q) = absurd (cc (q, ends))
    by_move call new a told ends (moves.opens k asks place first empty fresh is more few pending next f) = absurd (cc (ap progress_of f, ends))
    by_move call new a told ends (moves.sends u old k found x goes is more pending next) = absurd (cc (goes_sends s call a u old k goes, ends))
    by_move call new a told ends (moves.drops u m end there pending next f leaves) =
        let one : u ≡ t = cc (f, ends) in
        let is : end ≡ Ok out = cc (f, ends) in
        let lookup : m ≡ l = cc (here, there, one) in
        by_leaves call told end is (rw (one, lookup) at leaves)

    pub end_step : (call : ResolverCall) (new : State) (a : Reply) → Told in_force s call → Step s call new a → progress_of a ≡ Ends t (Ok out) → Was
    end_step call new a told step ends = by_move call new a told ends (moved_by_step s o call new a step).move

    by_on : (u : ℕ) (m : Pending) → get s.pending u ≡ Some m → (new : State) (ticked : Ticked) → progress_of (ToTick ticked) ≡ Ends t (Ok out) → GoOn s u m new ticked → Was
    by_on u m there new ticked ends (again first more e f) = absurd (cc (rw f at ends))
    by_on u m there new ticked ends (next_place second room more e f) = absurd (cc (rw f at ends))
    by_on u m there new ticked ends (answered rec second last is_kept e f) =
        let told : Ends u (Ok (NotRegistered rec.prefix rec.servers)) ≡ Ends t (Ok out) = rw f at ends in
        let one : u ≡ t = cc told in
        let same_out : NotRegistered rec.prefix rec.servers ≡ out = cc told in
        let lookup : m ≡ l = cc (here, there, one) in
        rw same_out at (h.kept t l rec here (rw lookup at is_kept))
    by_on u m there new ticked ends (no_reply second last none e f) = absurd (cc (rw f at ends))
    by_on u m there new ticked ends (used_up has none e f) = absurd (cc (rw f at ends))

    pub end_haste : (nonce : ℕ) (new : State) (ticked : Ticked) → HastenStep s nonce new ticked → progress_of (ToTick ticked) ≡ Ends t (Ok out) → Was
    end_haste nonce new ticked (unknown none e f) ends = absurd (cc (rw f at ends))
    end_haste nonce new ticked (its_hastened u m there its on) ends = by_on u m there new ticked ends on

-- ---- over each change

begun_same : (begun : ℕ → ℕ) (s : State) (time : ℕ) → IsStateInOrder s → (t : ℕ) (l : Pending) → get s.pending t ≡ Some l → begun_on begun s time t ≡ begun t
begun_same begun s time o t l here = let w = o.lookups t l here in cond-true (nat_lt t s.next) (begun t) time (lt-ltb t s.next (omega (arith, w.ticket, w.nonce)))

-- nothing changes, and others begin later
since_begun : {in_force : ℕ → Register} {begun : ℕ → ℕ} {s : State} → IsStateInOrder s → (time : ℕ) → Since in_force begun s → Since in_force (begun_on begun s time) s
since_begun {begun = begun} {s = s} o time h = record {
  asked = λ t l here. rw (begun_same begun s time o t l here) (h.asked t l here);
  past = λ t l here. rw (begun_same begun s time o t l here) (h.past t l here);
  kept = λ t l rec here is. rw (begun_same begun s time o t l here) (h.kept t l rec here is);
}

-- what was true since then was true since before
since_earlier : {in_force : ℕ → Register} {begun before : ℕ → ℕ} {s : State} → ((t : ℕ) → before t ≤ begun t) → Since in_force begun s → Since in_force before s
since_earlier le h = record {
  asked = λ t l here. let one = le t in let two = h.asked t l here in omega (arith, one, two);
  past = λ t l here. let one = le t in let two = h.past t l here in omega (arith, one, two);
  kept = λ t l rec here is. let one = le t in let was = h.kept t l rec here is in let two = was.1 in (was.0, omega (arith, one, two), was.2, was.3);
}

pub since_moved : {in_force : ℕ → Register} {begun : ℕ → ℕ} (s : State) (now : ℕ) → Since in_force begun s → Since in_force begun (moved now s)
since_moved s now h = since_longer refl (omega arith) h

pub since_on : {in_force : ℕ → Register} {begun : ℕ → ℕ} {s new : State} {me : Locator} {tries : List Call} → ((at : ℕ) → FinalAnswersAreTheAssignment (in_force at)) → (now : ℕ) → now ≤ last_moment
    → IsStateInOrder s → Since in_force begun s → Change me now (Told in_force (moved now s)) s new tries → Since in_force (begun_on begun s (moved now s).known.time) new
since_on {s = s} decided now le o h (same is) = rw is (since_begun o (moved now s).known.time h)
since_on {s = s} decided now le o h (later is) = rw is (since_begun (order_moved s now le o) (moved now s).known.time (since_moved s now h))
since_on {s = s} {new = new} decided now le o h (stepped call a told step sent) = since_step (order_moved s now le o) (since_moved s now h) decided call new a told step
since_on {s = s} {new = new} decided now le o h (hastened nonce ticked step sent) = since_haste (order_moved s now le o) (since_moved s now h) decided nonce new ticked step

cond_le : (b : Bool) (first low high : ℕ) → low ≤ high → cond b first low ≤ cond b first high
cond_le true first low high le = omega arith
cond_le false first low high le = le

-- where an ask comes once time has passed
pub since_twice : {in_force : ℕ → Register} {begun : ℕ → ℕ} {s new : State} {me : Locator} {tries : List Call} → ((at : ℕ) → FinalAnswersAreTheAssignment (in_force at)) → (now : ℕ) → now ≤ last_moment
    → IsStateInOrder s → Since in_force begun s → Change me now (Told in_force (moved now (moved now s))) (moved now s) new tries → Since in_force (begun_on begun s (moved now s).known.time) new
since_twice {begun = begun} {s = s} decided now le o h c =
    since_earlier (λ t. cond_le (nat_lt t s.next) (begun t) (moved now s).known.time (moved now (moved now s)).known.time (omega arith))
    (since_on decided now le (order_moved s now le o) (since_moved s now h) c)
