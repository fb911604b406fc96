-- Who waits for a lookup that is pending, over a step.
use Rattle.std.proofs.lemmas.Bool.{cases_eq}
use Rattle.std.proofs.Common.{◌≡◌, ℕ, ◌≤◌, ◌⊎◌, inl, inr, [], ◌∷◌, ◌++◌, List, None, Some, Result, Ok, Err, refl, arith}
use Rattle.std.specs.Prelude.{IsSome, All}
use Rattle.std.specs.FinMap.{get, len}
use Rattle.std.proofs.lemmas.List.{length_push}
use Rattle.std.proofs.lemmas.List.Elements.{All-push}
use Rattle.ddt_path.specs.declared.record.Outcome.{Outcome}
use Rattle.ddt_sockets.specs.declared.wire_calls.Call.TheVariants.{Tried}
use Rattle.ddt_resolver.specs.declared.results.Asked.TheVariants as asked_as
use Rattle.ddt_resolver.specs.declared.results.Why.{Why}
use Rattle.ddt_resolver.specs.declared.pending.Pending.{Pending}
use Rattle.ddt_resolver.specs.State.{State, moved, request, numbered}
use Rattle.ddt_resolver.specs.Step.{Ask, Step, progress_of}
use Rattle.ddt_resolver.specs.declared.step.Progress.TheVariants.{Stays, Sends, Ends}
use Rattle.ddt_resolver.specs.declared.step.Reply.{Reply}
use Rattle.ddt_resolver.specs.declared.step.Reply.TheVariants.{ToAsk}
use Rattle.ddt_resolver.specs.Order.{IsStateInOrder}
use Rattle.ddt_resolver.specs.laws.NumberMap.{get-insert_same}
use Rattle.ddt_resolver.specs.laws.Shape.{Move, stays, opens, sends, drops, Goes, anew, keeps, repeats, goes_on, moved_by_step}
use Rattle.ddt_resolver.specs.laws.Order.{order_after}
use Rattle.ddt_loop.specs.declared.requester.Requester.TheVariants.{Identifier, Itr}
use Rattle.ddt_loop.specs.declared.requester.WaitingRequester.{WaitingRequester}
use Rattle.ddt_loop.specs.Requesters.{Desk, waiting_for, with_requester, AreApart, AreWaiting}
use Rattle.ddt_loop.specs.Acts.{Starts, HasRoomFor, Proceeds, IsRequesterTold}
use Rattle.ddt_loop.proofs.ShapeLemmas as shape
use Rattle.ddt_loop.proofs.ShapeLemmas.{Shape, of_move}
use Rattle.ddt_loop.proofs.WaitingLemmas.{of_left, apart_push, few_owners, get_insert_other, get_remove_other, some_of}

-- a lookup that is pending has ended, or is pending still, for the same identifier
pub carried : {s new a : _} → IsStateInOrder s → Shape s new a → (u : ℕ) (l : Pending) → get s.pending u ≡ Some l
    → ((end : Result Outcome Why) × (progress_of a ≡ Ends u end))
    ⊎ ((m : Pending) × (get new.pending u ≡ Some m) × (m.x ≡ l.x))
carried o (shape.stays p n q) u l here = inr (l, rw p here, refl)
carried {s} o (shape.sends t k from p n q) u l here = elim (cases_eq u t) [
  | inl same ↦ inr (
    numbered s k,
    rw (p, same) (get-insert_same s.pending t (numbered s k)),
    elim from [
      | inl found ↦ cc (found.2, found.1, here, same)
      | inr fresh ↦ let w = o.lookups u l here in absurd (omega (arith, same, fresh, w.ticket, w.nonce))
    ],
  )
  | inr other ↦ inr (l, rw (p, get_insert_other s.pending t u other (numbered s k)) here, refl)
]
carried {s} o (shape.drops t k e found p n f) u l here = elim (cases_eq u t) [
  | inl same ↦ inl (e, rw same f)
  | inr other ↦ inr (l, rw (p, get_remove_other s.pending t u other) here, refl)
]

-- no lookup of these ends
abbrev pub NoneEnds : Reply → List WaitingRequester → Type 0
NoneEnds a waiting = All (λ p. (end : Result Outcome Why) → progress_of a ≡ Ends p.ticket end → ⊥) waiting

wait_on : {s new a : _} → IsStateInOrder s → Shape s new a → (waiting : List WaitingRequester) → NoneEnds a waiting
    → All (λ p. IsSome (get s.pending p.ticket)) waiting → All (λ p. IsSome (get new.pending p.ticket)) waiting
wait_on o m waiting on there k d lt =
    let found = some_of _ (there k d lt) in
    elim (carried o m _ found.0 found.1) [
      | inl ended ↦ absurd (on k d lt ended.0 ended.1)
      | inr still ↦ rw still.1 refl
    ]

told_owners : (me end taken : _) (b : Desk) (calls : _) (after : Desk) → IsRequesterTold me end taken b calls after → after.waiting ≡ b.waiting
told_owners me end None b calls after t = rw t.1
told_owners me end (Some (Identifier place)) b calls after t = rw t.1
told_owners me (Ok out) (Some (Itr q)) b calls after t = rw t.1
told_owners me (Err why) (Some (Itr q)) b calls after t = rw t.1

-- whoever is left waited before, for a lookup that hasn't ended
pub who_is_left : (me : _) (d : Desk) (a calls : _) (after : Desk) → Proceeds me d (progress_of a) calls after → (P : WaitingRequester → Type 0)
    → AreApart d.waiting → All P d.waiting → AreApart after.waiting × NoneEnds a after.waiting × All P after.waiting
who_is_left me d a calls after goes P apart all = by (progress_of a) refl goes
  where
    by : (p : _) → progress_of a ≡ p → Proceeds me d p calls after → AreApart after.waiting × NoneEnds a after.waiting × All P after.waiting
    by Stays is g = rw g.1 (apart, λ i e lt end f. cc (is, f), all)
    by (Sends t out) is g = rw g.1 (apart, λ i e lt end f. cc (is, f), all)
    by (Ends t end) is g =
        let left = of_left g.takes P apart all in
        rw (told_owners me end g.taken _ calls after g.told) (left.0, λ i e lt end2 f. left.1 i e lt (cc (is, f)), left.2)

pub owners_go_on : {s new a : _} → IsStateInOrder s → Shape s new a → (me : _) (d : Desk) (calls : _) (after : Desk) → AreWaiting s d.waiting
    → Proceeds me d (progress_of a) calls after → AreWaiting new after.waiting
owners_go_on {s} {a = a} o m me d calls after owned goes =
    let left = who_is_left me d a calls after goes (λ p. IsSome (get s.pending p.ticket)) owned.apart owned.pending in
    record { apart = left.0; pending = wait_on o m after.waiting left.1 left.2 }

-- ---- an ask

-- nothing goes on by an ask
pub no_ask_goes : {s call r t l new : _} → Goes s call (ToAsk r) t l new → ⊥
no_ask_goes (anew f place first empty) = cc f
no_ask_goes (keeps source bytes rec called is f e) = cc f
no_ask_goes (repeats f over first e) = cc f
no_ask_goes (goes_on f over second more e) = cc f

-- nor does one end
pub ask_ends_none : (r t end : _) → progress_of (ToAsk r) ≡ Ends t end → ⊥
ask_ends_none (Ok (asked_as.Answer o)) t end is = cc is
ask_ends_none (Ok (asked_as.Sent u d)) t end is = cc is
ask_ends_none (Err why) t end is = cc is

-- the lookup that an ask starts
pub started : {s call new t d : _} → Move s call new (ToAsk (Ok (asked_as.Sent t d)))
    → (l : Pending) × (call ≡ Ask l.x) × (t ≡ s.next) × (d ≡ request s l) × (get new.pending t ≡ Some (numbered s l))
started (stays p n q) = absurd (cc q)
started {s} {t = t} (opens l asked place first empty fresh is more few p n f) =
    let at : t ≡ s.next = cc f in (l, asked, at, cc f, rw (p, at) (get-insert_same s.pending s.next (numbered s l)))
started (sends u old l found x goes is more p n) = absurd (no_ask_goes goes)
started (drops u l e found p n f why) = absurd (cc f)

module _ (s : State) (o : IsStateInOrder s) {x new a : _} (step : Step s (Ask x) new (ToAsk (Ok a))) where
  move : Move s (Ask x) new (ToAsk (Ok a))
  move = (moved_by_step s o (Ask x) new (ToAsk (Ok a)) step).move

  wait_still : (waiting : List WaitingRequester) → AreWaiting s waiting → All (λ p. IsSome (get new.pending p.ticket)) waiting
  wait_still waiting owned = wait_on o (of_move move) waiting (λ k p lt end. ask_ends_none (Ok a) _ end) owned.pending

  older : (t : ℕ) → IsSome (get s.pending t) → t ≡ s.next → ⊥
  older t some same =
      let found = some_of _ some in let w = o.lookups t found.0 found.1 in absurd (omega (arith, w.ticket, w.nonce, same))

  pub owners_start : (me who : _) (d : Desk) (calls : _) (after : Desk) → AreWaiting s d.waiting → Starts me who d a calls after → AreWaiting new after.waiting
  owners_start me who d calls after owned starts = by a refl starts
    where
      by : (b : _) → a ≡ b → Starts me who d b calls after → AreWaiting new after.waiting
      by (asked_as.Answer out) is e = rw e.1 (record { apart = owned.apart; pending = wait_still d.waiting owned })
      by (asked_as.Sent t out) is e = let l = started (rw is at move) in rw e.1 (record {
        apart = apart_push d.waiting (waiting_for t who) owned.apart (λ k p lt same. older _ (owned.pending k p lt) (cc (same, l.2)));
        pending = All-push (λ p. IsSome (get new.pending p.ticket)) d.waiting (waiting_for t who) (wait_still d.waiting owned)
            (rw l.4 refl);
      })

  pub room_for : (d : Desk) → AreWaiting s d.waiting → HasRoomFor a d
  room_for d owned = by a refl
    where
      by : (b : _) → a ≡ b → HasRoomFor b d
      by (asked_as.Answer out) is = tt
      by (asked_as.Sent t out) is =
          let first = Identifier 0 in
          let first_try = Tried s.me out.to out.port out.bytes (Ok tt) ∷ [] in
          let now = owners_start s.me first d first_try (with_requester d t first) owned (rw is (((refl, refl, refl, refl), tt), refl)) in
          let few = few_owners new.pending (d.waiting ++ waiting_for t first ∷ []) now.apart now.pending in
          let most : len new.pending ≤ 1024 = (order_after s (Ask x) new (ToAsk (Ok a)) o step).few in
          omega (arith, few, length_push d.waiting (waiting_for t first))

-- the passing of time changes nothing of it
pub moved_owners : {s waiting : _} (now : ℕ) → AreWaiting s waiting → AreWaiting (moved now s) waiting
moved_owners now owned = record { apart = owned.apart; pending = owned.pending }
