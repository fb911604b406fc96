-- What a running resolver keeps from act to act, where its calls are fair.
use Rattle.std.proofs.Common.{◌≡◌, ℕ, ◌≤◌, inl, inr, List, [], ◌∷◌, ◌++◌, append-nil, append_assoc, Option, Some, None, Result, Ok, Err, refl, sym, ap, ◌∙◌, subst, arith}
use Rattle.std.specs.Prelude.{All, slice_get}
use Rattle.std.specs.List.{AllZip}
use Rattle.std.specs.FinMap.{get, insert}
use Rattle.std.proofs.lemmas.List.Elements.{All-push, Contains-append_right}
use Rattle.ddt_path.specs.declared.locator.Locator.{Locator}
use Rattle.ddt_path.specs.declared.record.Outcome.{Outcome}
use Rattle.ddt_path.specs.declared.xeid.Xeid.{Xeid}
use Rattle.ddt_path.specs.Path.{xeid_path}
use Rattle.ddt_register.specs.declared.register.Register.{Register}
use Rattle.ddt_check.specs.Rules.{IsAccepted}
use Rattle.ddt_check.specs.Assignment.{assignment}
use Rattle.ddt_cache.specs.Moment.{last_moment}
use Rattle.ddt_sockets.specs.declared.wire_calls.Call.{Call}
use Rattle.ddt_sockets.specs.declared.wire_calls.Call.TheVariants.{Tried}
use Rattle.ddt_ecm.specs.UdpHeader.{control_port}
use Rattle.ddt_resolver.specs.declared.results.Asked.TheVariants as asked_as
use Rattle.ddt_resolver.specs.declared.results.AskError.{AskError}
use Rattle.ddt_resolver.specs.declared.results.Heard.TheVariants as heard_as
use Rattle.ddt_resolver.specs.declared.results.Ticked.TheVariants as ticked_as
use Rattle.ddt_resolver.specs.declared.results.Outgoing.{Outgoing}
use Rattle.ddt_resolver.specs.declared.results.Why.{Why}
use Rattle.ddt_resolver.specs.declared.itr_messages.ItrRequest.{ItrRequest}
use Rattle.ddt_resolver.specs.declared.pending.Pending.{Pending}
use Rattle.ddt_resolver.specs.State.{State, moved, numbered, request, request_bytes, server}
use Rattle.ddt_resolver.specs.Step.{Ask, Hear, Tick, Step, progress_of}
use Rattle.ddt_resolver.specs.declared.step.Progress.TheVariants.{Stays, Sends, Ends}
use Rattle.ddt_resolver.specs.declared.step.Reply.TheVariants.{ToAsk, ToDatagram, ToTick}
use Rattle.ddt_resolver.specs.Order.{IsStateInOrder}
use Rattle.ddt_resolver.specs.laws.NumberMap.{found_insert, found_remove}
use Rattle.ddt_resolver.specs.laws.Order.{order_after, order_moved}
use Rattle.ddt_resolver.specs.laws.Shape.{moved_by_step}
use Rattle.ddt_resolver.specs.declared.step.Reply.{Reply}
use Rattle.ddt_loop.proofs.ShapeLemmas as shape
use Rattle.ddt_loop.proofs.ShapeLemmas.{Shape, of_move}
use Rattle.ddt_sim.specs.Sound.{IsSound, IsFair as IsFairCall, IsRight, IsRightHeard, IsRightTicked, IsRightEnd as IsRightOutcome, IsRightWhy, StepsKeepSoundness, TimeKeepsSoundness}
use Rattle.ddt_loop.specs.declared.requester.Requester.{Requester}
use Rattle.ddt_loop.specs.declared.requester.Requester.TheVariants.{Identifier, Itr}
use Rattle.ddt_loop.specs.declared.requester.WaitingRequester.{WaitingRequester}
use Rattle.ddt_loop.specs.Requesters.{Desk, waiting_for, end_of, TakesOff, nobody, somebody, AreWaiting}
use Rattle.ddt_loop.specs.Acts.{Running, running, Asks, answered, refused, lacks_memory, Proceeds, IsRequesterTold}
use Rattle.ddt_loop.specs.Right.{WasAsked, IsRightLoopEnd, Owes, forgotten}
use Rattle.ddt_loop.proofs.WaitingLemmas.{of_taken}
use Rattle.ddt_loop.proofs.PendingLemmas.{carried, NoneEnds, who_is_left, ask_ends_none, owners_go_on, owners_start, started, moved_owners}
use Rattle.ddt_loop.proofs.CallLemmas.{was_asked_more, WasSent, was_sent, itr_of, itrs, itrs_push, itrs_append, owes_request, owes_told, end_set}

-- ---- what is kept

-- who asked for x
abbrev pub AsksFor : List Xeid → Requester → Xeid → Type 0
AsksFor ids (Identifier i) x = slice_get ids i ≡ Some x
AsksFor ids (Itr q) x = q.xeid ≡ x

-- the pending lookup of one who waits is for what was asked
abbrev pub WaitsFor : List Xeid → State → WaitingRequester → Type 0
WaitsFor ids s o = (l : Pending) × (get s.pending o.ticket ≡ Some l) × AsksFor ids o.requester l.x

pub record IsKept (r : Register) (me : Locator) (ids : List Xeid) (calls : List Call) (w : Running) : Type 0 where
  pub order : IsStateInOrder w.state
  pub sound : IsSound r w.state
  pub own : w.state.me ≡ me
  pub tried : (t : ℕ) (l : Pending) → get w.state.pending t ≡ Some l → WasAsked me (server me l) l.nonce l.x calls
  pub owned : AreWaiting w.state w.desk.waiting
  pub waits : All (WaitsFor ids w.state) w.desk.waiting
  pub ends : AllZip (IsRightLoopEnd r) ids w.desk.ends

pub kept_more : {r me ids calls w : _} (more : _) → IsKept r me ids calls w → IsKept r me ids (calls ++ more) w
kept_more {me = me} {calls = calls} more k =
    let tried = λ (t : ℕ) (l : Pending) (here : _). was_asked_more me (server me l) l.nonce l.x calls more (k.tried t l here) in
    record { order = k.order; sound = k.sound; own = k.own; tried = tried; owned = k.owned; waits = k.waits; ends = k.ends }

-- with another desk
pub kept_with : {r me ids calls w : _} (desk : Desk) → IsKept r me ids calls w → AreWaiting w.state desk.waiting → All (WaitsFor ids w.state) desk.waiting
    → AllZip (IsRightLoopEnd r) ids desk.ends → IsKept r me ids calls (running w.state desk)
kept_with desk k owned waits ends =
    record { order = k.order; sound = k.sound; own = k.own; tried = k.tried; owned = owned; waits = waits; ends = ends }

-- ---- what a reply tells

-- an end that is right for whoever waits for it
abbrev pub EndsRight : Register → State → ℕ → Result Outcome Why → Type 0
EndsRight r s t (Ok o) = IsRightOutcome r s t o
EndsRight r s t (Err why) = IsRightWhy why

heard_right : (r s h t end : _) → IsRightHeard r s h → progress_of (ToDatagram h) ≡ Ends t end → EndsRight r s t end
heard_right r s (heard_as.Ignored why) t end right is = absurd (cc is)
heard_right r s (heard_as.Followed u d) t end right is = absurd (cc is)
heard_right r s (heard_as.Answer u o) t end right is = let e : end ≡ Ok o = cc is in let f : t ≡ u = cc is in rw (e, f) right
heard_right r s (heard_as.GaveUp u why) t end right is = let e : end ≡ Err why = cc is in rw e right

pub ticked_right : (r s h t end : _) → IsRightTicked r s h → progress_of (ToTick h) ≡ Ends t end → EndsRight r s t end
ticked_right r s ticked_as.Nothing t end right is = absurd (cc is)
ticked_right r s (ticked_as.Sent u d) t end right is = absurd (cc is)
ticked_right r s (ticked_as.Answer u o) t end right is = let e : end ≡ Ok o = cc is in let f : t ≡ u = cc is in rw (e, f) right
ticked_right r s (ticked_as.GaveUp u why) t end right is = let e : end ≡ Err why = cc is in rw e right

pub right_end : (r s call a t end : _) → IsRight r s call a → progress_of a ≡ Ends t end → EndsRight r s t end
right_end r s call (ToAsk b) t end right is = absurd (ask_ends_none b t end is)
right_end r s (Ask x) (ToDatagram h) t end right is = heard_right r s h t end right is
right_end r s (Hear source bytes) (ToDatagram h) t end right is = heard_right r s h t end right is
right_end r s Tick (ToDatagram h) t end right is = heard_right r s h t end right is
right_end r s (Ask x) (ToTick h) t end right is = ticked_right r s h t end right is
right_end r s (Hear source bytes) (ToTick h) t end right is = ticked_right r s h t end right is
right_end r s Tick (ToTick h) t end right is = ticked_right r s h t end right is

its_end : (r s t end l : _) → EndsRight r s t end → get s.pending t ≡ Some l → IsRightLoopEnd r l.x (end_of end)
its_end r s t (Ok out) l right here = right l here
its_end r s t (Err why) l right here = right

-- ---- a step

-- the register is accepted, and steps and time keep a resolver sound
pub record Grounds (r : Register) : Type 0 where
  pub laws : StepsKeepSoundness
  pub time : TimeKeepsSoundness
  pub accepted : IsAccepted r

-- what is kept by a step, or by a lookup that is hastened, and whether it ends a lookup rightly
pub record IsAct (r : Register) (s new : State) (a : Reply) : Type 0 where
  pub order : IsStateInOrder new
  pub sound : IsSound r new
  pub own : new.me ≡ s.me
  pub right : (t : ℕ) (end : Result Outcome Why) → progress_of a ≡ Ends t end → EndsRight r s t end
  pub shape : Shape s new a

-- what is left to reply to once an ask is answered
abbrev pub left_over : Result (Option Outcome) AskError → Requester → List ItrRequest
left_over (Ok None) who = []
left_over (Ok (Some o)) who = itr_of who
left_over (Err why) who = itr_of who

pub record IsAskKept (r : Register) (me : Locator) (ids : List Xeid) (calls : List Call) (w : Running) (x : Xeid) (who : Requester)
    (answer : Result (Option Outcome) AskError) (tries : List Call) (new : Running) : Type 0 where
  pub kept : IsKept r me ids (calls ++ tries) new
  pub right : (o : Outcome) → answer ≡ Ok (Some o) → o ≡ assignment r (xeid_path x)
  pub owes : (extra : List ItrRequest) → Owes r me calls (itrs w.desk.waiting ++ (itr_of who ++ extra))
      → Owes r me (calls ++ tries) (itrs new.desk.waiting ++ (left_over answer who ++ extra))

module _ {r : Register} (g : Grounds r) {me ids calls w : _} (k : IsKept r me ids calls w) (now : ℕ) (le : now ≤ last_moment) where
  abbrev s : State
  s = moved now w.state

  o : IsStateInOrder s
  o = order_moved w.state now le k.order

  -- memory ran out: only the time has moved
  pub kept_moved : (new : Running) → new.state ≡ s → new.desk ≡ w.desk → IsKept r me ids calls new
  kept_moved new state desk =
      let sound = g.time r w.state now k.sound in
      subst (IsKept r me ids calls) (ap (λ (s : State). running s w.desk) (sym state) ∙ ap (running new.state) (sym desk))
      (record { order = o; sound = sound; own = k.own; tried = k.tried; owned = moved_owners now k.owned; waits = k.waits; ends = k.ends })

  pub by_step : {call new a : _} → Step s call new a → IsFairCall r s call → IsAct r s new a
  by_step {call} {new} {a} step fair =
      let both = g.laws r s call new a g.accepted o (g.time r w.state now k.sound) fair step in
      let m = moved_by_step s o call new a step in record {
        order = order_after s call new a o step;
        sound = both.0;
        own = m.me;
        right = λ t end is. right_end r s call a t end both.1 is;
        shape = of_move m.move;
      }

  module _ {new a : _} (act : IsAct r s new a) (desk : Desk) (tries : List Call) (goes : Proceeds me w.desk (progress_of a) tries desk) where
    -- ---- what was tried

    sent_now : (l : Pending) (t : ℕ) → progress_of a ≡ Sends t (request s l) → WasSent me (request s l) tries
    sent_now l t is = let g = rw is at goes in was_sent me (request s l) tries g.0

    older : (t : ℕ) (m : Pending) → get s.pending t ≡ Some m → WasAsked me (server me m) m.nonce m.x (calls ++ tries)
    older t m here = was_asked_more me (server me m) m.nonce m.x calls tries (k.tried t m here)

    newer : (u : ℕ) (l : Pending) → new.pending ≡ insert s.pending u (numbered s l) → WasSent me (request s l) tries
        → (t : ℕ) (m : Pending) → get new.pending t ≡ Some m → WasAsked me (server me m) m.nonce m.x (calls ++ tries)
    newer u l p sent t m here =
        elim (found_insert s.pending u (numbered s l) t m (rw p at here)) [
          | inl e ↦ rw (← e.1) (
            sent.0,
            rw (sent.1, k.own)
                (Contains-append_right calls (Tried me (server me l) control_port (request_bytes s.next l.x me) sent.0 ∷ []) _ (0, omega arith, refl)),
          )
          | inr e ↦ older t m e.1
        ]

    tried : Shape s new a → (t : ℕ) (m : Pending) → get new.pending t ≡ Some m → WasAsked me (server me m) m.nonce m.x (calls ++ tries)
    tried (shape.stays p n q) t m here = older t m (rw p at here)
    tried (shape.sends u l from p n f) t m here = newer u l p (sent_now l u f) t m here
    tried (shape.drops u l e found p n f) t m here = older t m (found_remove s.pending u t m (rw p at here)).1

    -- ---- who waits

    -- one who waits for a lookup that hasn't ended waits on
    all_wait : (waiting : List WaitingRequester) → NoneEnds a waiting → All (WaitsFor ids s) waiting → All (WaitsFor ids new) waiting
    all_wait waiting on waits i d lt =
        let here = waits i d lt in
        elim (carried o act.shape _ here.0 here.1) [
          | inl ended ↦ absurd (on i d lt ended.0 ended.1)
          | inr m ↦ (m.0, m.1, rw m.2 here.2)
        ]

    -- who is told asked for what has ended
    told_ends : (t : ℕ) (end : Result Outcome Why) (taken : Option Requester) (rest : List WaitingRequester) → EndsRight r s t end → TakesOff t w.desk.waiting rest taken
        → IsRequesterTold me end taken (record w.desk { waiting = rest }) tries desk → AllZip (IsRightLoopEnd r) ids desk.ends
    told_ends t end None rest right takes told = rw told.1 k.ends
    told_ends t end (Some (Identifier i)) rest right takes told =
        let waits = of_taken takes (WaitsFor ids s) k.waits in
        rw told.1 (end_set r ids w.desk.ends i waits.0.x (end_of end) waits.2 (its_end r s t end waits.0 right waits.1) k.ends)
    told_ends t (Ok out) (Some (Itr q)) rest right takes told = rw told.1 k.ends
    told_ends t (Err why) (Some (Itr q)) rest right takes told = rw told.1 k.ends

    ends_on : (p : _) → progress_of a ≡ p → Proceeds me w.desk p tries desk → AllZip (IsRightLoopEnd r) ids desk.ends
    ends_on Stays is g = rw g.1 k.ends
    ends_on (Sends t d) is g = rw g.1 k.ends
    ends_on (Ends t end) is g = told_ends t end g.taken g.rest (act.right t end is) g.takes g.told

    pub kept_on : IsKept r me ids (calls ++ tries) (running new desk)
    kept_on =
        let left = who_is_left me w.desk a tries desk goes (WaitsFor ids s) k.owned.apart k.waits in
        let owned = owners_go_on o act.shape me w.desk tries desk (moved_owners now k.owned) goes in
        let own = act.own ∙ k.own in
        let waits = all_wait desk.waiting left.1 left.2 in
        let ends = ends_on (progress_of a) refl goes in
        record { order = act.order; sound = act.sound; own = own; tried = tried act.shape; owned = owned; waits = waits; ends = ends }

    -- ---- at most one reply is tried

    module _ (extra : List ItrRequest) where
      -- one is taken off the list and told
      owes_taken : (before after : List WaitingRequester) (t : ℕ) (who : Requester) → WaitsFor ids s (waiting_for t who) → (e : Result Outcome Why) → EndsRight r s t e
          → IsRequesterTold me e (Some who) (record w.desk { waiting = before ++ after }) tries desk
          → Owes r me calls (itrs before ++ (itr_of who ++ (itrs after ++ extra))) → Owes r me (calls ++ tries) (itrs desk.waiting ++ extra)
      owes_taken before after t (Identifier i) waits e right told owes = rw (told.0, append-nil, told.1, itrs_append before after, append_assoc) owes
      owes_taken before after t (Itr q) waits (Ok out) right told owes =
          rw (told.1, itrs_append before after, append_assoc)
          (owes_told (itrs before) (itrs after ++ extra) q out tries owes (right waits.0 waits.1 ∙ ap (λ y. assignment r (xeid_path y)) (sym waits.2)) told.0)
      owes_taken before after t (Itr q) waits (Err why) right told owes =
          rw (told.0, append-nil, told.1, itrs_append before after, append_assoc) (forgotten (itrs before) (itrs after ++ extra) q owes)

      owes_end : (t : ℕ) (end : Result Outcome Why) (rest : List WaitingRequester) (taken : Option Requester) → EndsRight r s t end → TakesOff t w.desk.waiting rest taken
          → IsRequesterTold me end taken (record w.desk { waiting = rest }) tries desk → Owes r me calls (itrs w.desk.waiting ++ extra)
          → Owes r me (calls ++ tries) (itrs desk.waiting ++ extra)
      owes_end t end rest taken right (nobody none e f) told owes = let is = rw (f, e) at told in rw (is.0, append-nil, is.1) owes
      owes_end t end rest taken right (somebody before after who e f g) told owes =
          owes_taken before after t who (of_taken (somebody before after who e f refl) (WaitsFor ids s) k.waits) end right (rw (g, f) at told)
          (rw (e, itrs_append before (waiting_for t who ∷ after), append_assoc, append_assoc) at owes)

      pub owes_on : Owes r me calls (itrs w.desk.waiting ++ extra) → Owes r me (calls ++ tries) (itrs desk.waiting ++ extra)
      owes_on owes = by act.shape
        where
          by : Shape s new a → Owes r me (calls ++ tries) (itrs desk.waiting ++ extra)
          by (shape.stays p n q) = let g = rw q at goes in rw (g.0, append-nil, g.1) owes
          by (shape.sends t l from p n f) =
              let g = rw f at goes in
              rw g.1 (owes_request (request s l) tries s.next l.x owes (sent_now l t f) (ap (request_bytes s.next l.x) k.own))
          by (shape.drops t l end here p n f) = let g = rw f at goes in owes_end t end g.rest g.taken (act.right t end f) g.takes g.told owes

  -- ---- an ask

  pub kept_ask : {x who answer tries new : _} → AsksFor ids who x → Asks me now x who w answer tries new → IsAskKept r me ids calls w x who answer tries new
  kept_ask {x} {tries = tries} {new = new} wants (answered (asked_as.Answer out) step starts is) = record {
    kept = kept_on (by_step step tt) new.desk tries starts;
    right = λ o e. let same : o ≡ out = cc (e, is) in same ∙ (g.laws r s (Ask x) new.state _ g.accepted (order_moved w.state now le k.order) (g.time r w.state now k.sound) tt step).1;
    owes = λ extra owes. rw (is, starts.0, append-nil calls, starts.1) owes;
  }
  kept_ask {x} {who} {tries = tries} {new = new} wants (answered (asked_as.Sent t d) step starts is) =
      let m = kept_on (by_step step tt) w.desk tries (starts.0, refl) in
      let l = started (moved_by_step s o (Ask x) new.state _ step).move in
      let same : x ≡ l.0.x = cc l.1 in
      record {
        kept = kept_with new.desk m (owners_start s o step me who w.desk tries new.desk (moved_owners now k.owned) starts)
            (rw starts.1 (All-push (WaitsFor ids new.state) w.desk.waiting (waiting_for t who) m.waits (numbered s l.0, l.4, rw same at wants)))
            (rw starts.1 k.ends);
        right = λ o e. absurd (cc (e, is));
        owes = λ extra owes. rw (is, starts.1, itrs_push w.desk.waiting (waiting_for t who), append_assoc)
            (owes_request d tries s.next l.0.x owes (was_sent me d tries starts.0)
            (ap (λ (z : Outgoing). z.bytes) l.3 ∙ ap (request_bytes s.next l.0.x) k.own));
      }
  kept_ask {tries = tries} {new = new} wants (refused why step desk none is) = record {
    kept = kept_on (by_step step tt) new.desk tries (none, desk);
    right = λ o e. absurd (cc (e, is));
    owes = λ extra owes. rw (is, none, append-nil calls, desk) owes;
  }
  kept_ask {tries = tries} {new = new} wants (lacks_memory memory state desk none is) = record {
    kept = kept_more tries (kept_moved new state desk);
    right = λ o e. absurd (cc (e, is));
    owes = λ extra owes. rw (is, none, append-nil calls, desk) owes;
  }
