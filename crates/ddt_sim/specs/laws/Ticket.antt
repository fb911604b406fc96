-- A ticket of a schedule is opened once, and ends at most once.
use Rattle.std.proofs.Common.{◌≡◌, ℕ, ◌<◌, ◌≤◌, false, List, [], ◌∷◌, Some, None, Ok, Err, refl, sym, ap, ◌∙◌, arith, inl, inr, ◌⊎◌}
use Rattle.std.specs.Option.{option_map_or}
use Rattle.std.specs.FinMap.{get}
use Rattle.ddt_path.specs.declared.xeid.Xeid.{Xeid}
use Rattle.ddt_resolver.specs.declared.pending.Pending.{Pending}
use Rattle.ddt_resolver.specs.declared.results.Outgoing.{Outgoing}
use Rattle.ddt_resolver.specs.declared.results.Asked.TheVariants as asked_as
use Rattle.ddt_resolver.specs.declared.results.Heard.TheVariants as heard_as
use Rattle.ddt_resolver.specs.declared.results.Ticked.TheVariants as ticked_as
use Rattle.ddt_resolver.specs.declared.step.Reply.{Reply}
use Rattle.ddt_resolver.specs.declared.step.Reply.TheVariants.{ToAsk, ToDatagram, ToTick}
use Rattle.ddt_resolver.specs.declared.step.Progress.{Progress}
use Rattle.ddt_resolver.specs.declared.step.Progress.TheVariants as progress
use Rattle.ddt_resolver.specs.State.{State, moved, numbered, request}
use Rattle.ddt_resolver.specs.Step as resolver
use Rattle.ddt_resolver.specs.Step.{ResolverCall, progress_of}
use Rattle.ddt_resolver.specs.Order.{IsLookup}
use Rattle.ddt_resolver.specs.laws.NumberMap.{found_insert, found_remove}
use Rattle.ddt_resolver.specs.laws.Shape.{Move, stays, opens, sends, drops, Goes, anew, keeps, repeats, goes_on, goes_sends}
use Rattle.ddt_sim.specs.declared.schedule.Step.TheVariants.{Ask}
use Rattle.ddt_sim.specs.World.{event_of, reply_at, progress_at}
use Rattle.ddt_sim.specs.History.{Line, Among}
use Rattle.ddt_sim.specs.Schedules.{AsksFor, IsOpened, IsEnded, IsOnce}

pub among_map : (past : List Line) (is are : Line → Type 0) → ((line : Line) → is line → are line) → Among past is → Among past are
among_map [] is are f h = h
among_map (line ∷ past) is are f (inl h) = inl (f line h)
among_map (line ∷ past) is are f (inr h) = inr (among_map past is are f h)

-- ---- what a reply tells of a ticket

-- the event of a reply tells it
pub reply_told : (a : Reply) → reply_at (event_of a) ≡ Some a
reply_told (ToAsk (Ok a)) = refl
reply_told (ToAsk (Err why)) = refl
reply_told (ToDatagram h) = refl
reply_told (ToTick h) = refl

-- and what it makes of the pending lookups
pub told_progress : (a : Reply) → progress_at (event_of a) ≡ progress_of a
told_progress a = ap (λ r. option_map_or progress_of r progress.Stays) (reply_told a)

-- it is of a ticket: it sends for it, or ends it
abbrev pub IsOf : Progress → ℕ → Type 0
IsOf progress.Stays t = ⊥
IsOf (progress.Sends u d) t = u ≡ t
IsOf (progress.Ends u end) t = u ≡ t

-- one that goes on opens and ends none
pub goes_on_reply : (s : State) (call : ResolverCall) (a : Reply) (t : ℕ) (l new : Pending) → Goes s call a t l new → ((d : Outgoing) × (a ≡ ToDatagram (heard_as.Followed t d))) ⊎ ((d : Outgoing) × (a ≡ ToTick (ticked_as.Sent t d)))
goes_on_reply s call a t l new (anew f place first empty) = inl (_, f)
goes_on_reply s call a t l new (keeps source bytes rec called is f e) = inl (_, f)
goes_on_reply s call a t l new (repeats f over first e) = inr (_, f)
goes_on_reply s call a t l new (goes_on f over second more e) = inr (_, f)

-- ---- who is pending after a step

-- Where a lookup comes from that is pending after a step. `stayed`: it was pending, and the step is not of it. `opened`:
-- it was asked for now. `went_on`: it was pending, and has sent its next request.
pub data PendingFrom (s : State) (call : ResolverCall) (a : Reply) (t : ℕ) (l : Pending) : Type 0 where
  stayed : get s.pending t ≡ Some l → (IsOf (progress_of a) t → ⊥) → PendingFrom s call a t l
  opened : (k : Pending) → numbered s k ≡ l → t ≡ s.next → call ≡ resolver.Ask k.x → k.server_index ≡ 0 → k.is_retry ≡ false → k.last_not_registered ≡ None
      → a ≡ ToAsk (Ok (asked_as.Sent s.next (request s k))) → PendingFrom s call a t l
  went_on : (old k : Pending) → numbered s k ≡ l → get s.pending t ≡ Some old → k.x ≡ old.x → Goes s call a t old k → IsLookup k → PendingFrom s call a t l

pub pending_from : {s : State} {call : ResolverCall} {new : State} {a : Reply} → Move s call new a → (t : ℕ) (l : Pending) → get new.pending t ≡ Some l → PendingFrom s call a t l
pending_from {s = s} (stays p n q) t l found = stayed (rw p at found) (λ of. rw q at of)
pending_from {s = s} (opens k called place first empty unsaved is more few p n f) t l found = elim (found_insert s.pending s.next (numbered s k) t l (rw p at found)) [
  | inl e ↦ opened k e.1 e.0 called place first empty f
  | inr e ↦ stayed e.1 (λ of. e.0 (sym (rw f at of)))
]
pending_from {s = s} (sends u old k here x goes is more p n) t l found = elim (found_insert s.pending u (numbered s k) t l (rw p at found)) [
  | inl e ↦ went_on old k e.1 (rw e.0 here) x (rw e.0 goes) is
  | inr e ↦ stayed e.1 (λ of. e.0 (sym (rw (goes_sends s _ _ u old k goes) at of)))
]
pending_from {s = s} (drops u k end here p n f why) t l found =
    let e = found_remove s.pending u t l (rw p at found) in
    stayed e.1 (λ of. e.0 (sym (rw f at of)))

-- ---- the invariant

pub record Tickets (past : List Line) (s : State) : Type 0 where
  pub asked_for : (t : ℕ) (l : Pending) → get s.pending t ≡ Some l → Among past (AsksFor t l.x)
  pub running : (t : ℕ) (l : Pending) → get s.pending t ≡ Some l → Among past (IsEnded t) → ⊥
  pub known : (t : ℕ) → Among past (IsOpened t) → t < s.next
  pub ended : (t : ℕ) → Among past (IsEnded t) → Among past (IsOpened t)

-- What a line does to the tickets: it may open the next one, or end one that is pending.
pub record IsTurn (line : Line) (old new : State) : Type 0 where
  pub grows : old.next ≤ new.next
  pub was : (t : ℕ) (l : Pending) → get new.pending t ≡ Some l → ((k : Pending) × (get old.pending t ≡ Some k) × (k.x ≡ l.x)) ⊎ ((t ≡ old.next) × AsksFor t l.x line)
  pub opens : (t : ℕ) → IsOpened t line → (t ≡ old.next) × (old.next < new.next)
  pub ends : (t : ℕ) → IsEnded t line → (k : Pending) × (get old.pending t ≡ Some k) × ((l : Pending) → get new.pending t ≡ Some l → ⊥)

module _ {past : List Line} {line : Line} {old new : State} (i : Tickets past old) (turn : IsTurn line old new) where
  pub tickets_on : Tickets (line ∷ past) new
  tickets_on = record {
    asked_for = λ t l found. elim (turn.was t l found) [
      | inl k ↦ inr (rw k.2 at (i.asked_for t k.0 k.1))
      | inr asks ↦ inl asks.1
    ];
    running = λ t l found. elim [
      | inl h ↦ (turn.ends t h).2 l found
      | inr h ↦ elim (turn.was t l found) [ inl k ↦ i.running t k.0 k.1 h | inr asks ↦ let lt = i.known t (i.ended t h) in omega (arith, lt, asks.0) ]
    ];
    known = λ t. elim [
      | inl h ↦ let e = turn.opens t h in omega (arith, e.0, e.1)
      | inr h ↦ let lt = i.known t h in let le = turn.grows in omega (arith, lt, le)
    ];
    ended = λ t. elim [
      | inl h ↦ let k = turn.ends t h in inr (among_map past (AsksFor t k.0.x) (IsOpened t) (λ z w. w.1) (i.asked_for t k.0 k.1))
      | inr h ↦ inr (i.ended t h)
    ];
  }

  pub once_on : IsOnce past line
  once_on = record {
    opens = λ t h before. let lt = i.known t before in let e = turn.opens t h in omega (arith, lt, e.0);
    ends = λ t h before. let k = turn.ends t h in i.running t k.0 k.1 before;
  }

-- a line that is of no ticket
pub still_turn : (line : Line) (old new : State) → progress_at line.event ≡ progress.Stays → new ≡ old → IsTurn line old new
still_turn line old new still same = rw same (record {
  grows = omega arith;
  was = λ t l found. inl (l, found, refl);
  opens = λ t h. absurd (cc (ap progress_at h.1, still));
  ends = λ t h. absurd (cc (h.1, still));
})

-- a line of the resolver
module _ (line : Line) (moment : ℕ) (old new : State) (call : ResolverCall) (a : Reply) (calls : (x : Xeid) → call ≡ resolver.Ask x → line.step ≡ Ask x) (tells : line.event ≡ event_of a) where
  progress_is : progress_at line.event ≡ progress_of a
  progress_is = ap progress_at tells ∙ told_progress a

  came_was : (t : ℕ) (l : Pending) → PendingFrom (moved moment old) call a t l → ((k : Pending) × (get old.pending t ≡ Some k) × (k.x ≡ l.x)) ⊎ ((t ≡ old.next) × AsksFor t l.x line)
  came_was t l (stayed there other) = inl (l, there, refl)
  came_was t l (opened k is here called place first empty f) = inr (here, (calls l.x (called ∙ ap (λ (z : Pending). resolver.Ask z.x) is), (request (moved moment old) k, rw here (tells ∙ ap event_of f))))
  came_was t l (went_on k m is there x goes lookup) = inl (k, there, sym x ∙ ap (λ (z : Pending). z.x) is)

  move_grows : Move (moved moment old) call new a → old.next ≤ new.next
  move_grows (stays p n q) = omega (arith, n)
  move_grows (opens k asks place first empty unsaved is more few p n f) = omega (arith, n)
  move_grows (sends u k l here x goes is more p n) = omega (arith, n)
  move_grows (drops u k end here p n f why) = omega (arith, n)

  move_opens : Move (moved moment old) call new a → (t : ℕ) → IsOpened t line → (t ≡ old.next) × (old.next < new.next)
  move_opens (stays p n q) t h = absurd (cc (ap progress_at h.1, progress_is, q))
  move_opens (opens k asks place first empty unsaved is more few p n f) t h = (cc (h.1, tells, ap event_of f), omega (arith, n))
  move_opens (sends u k l here x goes is more p n) t h = elim (goes_on_reply (moved moment old) call a u k l goes) [
    | inl f ↦ absurd (cc (h.1, tells, ap event_of f.1))
    | inr f ↦ absurd (cc (h.1, tells, ap event_of f.1))
  ]
  move_opens (drops u k end here p n f why) t h = absurd (cc (ap progress_at h.1, progress_is, f))

  move_ends : Move (moved moment old) call new a → (t : ℕ) → IsEnded t line → (k : Pending) × (get old.pending t ≡ Some k) × ((l : Pending) → get new.pending t ≡ Some l → ⊥)
  move_ends (stays p n q) t h = absurd (cc (h.1, progress_is, q))
  move_ends (opens k asks place first empty unsaved is more few p n f) t h = absurd (cc (h.1, progress_is, ap progress_of f))
  move_ends (sends u k l here x goes is more p n) t h = absurd (cc (h.1, progress_is, goes_sends (moved moment old) call a u k l goes))
  move_ends (drops u k end here p n f why) t h =
      let same : u ≡ t = cc (h.1, progress_is, f) in
      (k, rw same at here, λ l found. (found_remove old.pending u t l (rw p at found)).0 (sym same))

  pub move_turn : Move (moved moment old) call new a → IsTurn line old new
  move_turn m = record {
    grows = move_grows m;
    was = λ t l found. came_was t l (pending_from m t l found);
    opens = move_opens m;
    ends = move_ends m;
  }
