-- A lookup that ends with an outcome ends as the register assigns, and as registered only by one of the servers assigned.
use Rattle.std.proofs.Common.{◌≡◌, ℕ, List, Some, Result, Ok, Err, refl, sym, ap, ◌∙◌}
use Rattle.std.specs.Prelude.{◌≤◌}
use Rattle.std.specs.FinMap.{get}
use Rattle.ddt_path.specs.declared.action.Action.{Action}
use Rattle.ddt_path.specs.declared.action.Action.TheVariants.{NodeReferral, MsReferral, MsAck, MsNotRegistered, DelegationHole, NotAuthoritative}
use Rattle.ddt_path.specs.declared.locator.Locator.{Locator}
use Rattle.ddt_path.specs.declared.record.Outcome.{Outcome}
use Rattle.ddt_path.specs.declared.record.Outcome.TheVariants.{Registered}
use Rattle.ddt_path.specs.declared.record.ReferralRecord.{ReferralRecord}
use Rattle.ddt_path.specs.Path.{xeid_path}
use Rattle.ddt_register.specs.declared.register.Register.{Register}
use Rattle.ddt_check.specs.Assignment.{assignment}
use Rattle.ddt_check.specs.Says.{says}
use Rattle.ddt_cache.specs.Moment.{last_moment}
use Rattle.ddt_sockets.specs.declared.wire_calls.Call.{Call}
use Rattle.ddt_resolver.specs.declared.itr_messages.ItrRequest.{ItrRequest}
use Rattle.ddt_resolver.specs.declared.pending.Pending.{Pending}
use Rattle.ddt_resolver.specs.declared.results.Asked.TheVariants as asked_as
use Rattle.ddt_resolver.specs.declared.results.Heard.TheVariants as heard_as
use Rattle.ddt_resolver.specs.declared.results.Ticked.TheVariants as ticked_as
use Rattle.ddt_resolver.specs.declared.results.Why.{Why}
use Rattle.ddt_resolver.specs.declared.step.Reply.{Reply}
use Rattle.ddt_resolver.specs.declared.step.Reply.TheVariants.{ToAsk, ToDatagram, ToTick}
use Rattle.ddt_resolver.specs.declared.step.Progress.TheVariants.{Ends}
use Rattle.ddt_resolver.specs.Order.{IsStateInOrder}
use Rattle.ddt_resolver.specs.Records.{outcome_at, outcome_of}
use Rattle.ddt_resolver.specs.State.{State, moved}
use Rattle.ddt_resolver.specs.Step.{ResolverCall, Ask, Hear, Tick, Step, progress_of}
use Rattle.ddt_resolver.specs.laws.Shape as moves
use Rattle.ddt_resolver.specs.laws.Shape.{Move, Leaves, goes_sends, moved_by_step}
use Rattle.ddt_sim.specs.Sound.{IsSound, IsFair, IsRight, IsRightHeard, IsRightTicked, IsRightEnd, IsRightWhy}
use Rattle.ddt_loop.specs.declared.packet_outcome.Ended.{Ended as End}
use Rattle.ddt_loop.specs.declared.requester.Requester.TheVariants.{Itr}
use Rattle.ddt_loop.specs.declared.requester.WaitingRequester.{WaitingRequester}
use Rattle.ddt_loop.specs.Requesters.{TakesOff}
use Rattle.ddt_loop.specs.Acts.{Running}
use Rattle.ddt_loop.specs.Ends.{EndsBy, EndsByHaste}
use Rattle.ddt_laws.specs.PositiveEnds.{IsAssigned}
use Rattle.ddt_laws.proofs.ShapeLemmas.{Shape, stays, sends, drops, of_step, of_haste}
use Rattle.ddt_laws.proofs.PositiveEndsLemmas.SayLemmas.{IsAssignedBy, acks_own}
use Rattle.ddt_laws.proofs.PositiveEndsLemmas.ForLemmas.{IsFor, IsOwnOf, of_taken}
use Rattle.ddt_laws.proofs.PositiveEndsLemmas.WaitLemmas.{Waits, wait_moved}
use Rattle.ddt_laws.proofs.PositiveEndsLemmas.StandLemmas.{Grounds, Stands, stands_moved}
use Rattle.ddt_laws.proofs.PositiveEndsLemmas.CloseLemmas.{EndsWell}

-- ---- what a reply tells

-- an end that is right for whoever waits for it
abbrev EndsRight : Register → State → ℕ → Result Outcome Why → Type 0
EndsRight r s t (Ok o) = IsRightEnd r s t o
EndsRight r s t (Err why) = IsRightWhy why

heard_right : (r : Register) (s : State) (h : _) (t : ℕ) (end : Result Outcome Why) → IsRightHeard r s h → progress_of (ToDatagram h) ≡ Ends t end → EndsRight r s t end
heard_right r s (heard_as.Ignored why) t end right is = absurd (cc is)
heard_right r s (heard_as.Followed u d) t end right is = absurd (cc is)
heard_right r s (heard_as.Answer u o) t end right is = let e : end ≡ Ok o = cc is in let f : t ≡ u = cc is in rw (e, f) right
heard_right r s (heard_as.GaveUp u why) t end right is = let e : end ≡ Err why = cc is in rw e right

ticked_right : (r : Register) (s : State) (h : _) (t : ℕ) (end : Result Outcome Why) → IsRightTicked r s h → progress_of (ToTick h) ≡ Ends t end → EndsRight r s t end
ticked_right r s ticked_as.Nothing t end right is = absurd (cc is)
ticked_right r s (ticked_as.Sent u d) t end right is = absurd (cc is)
ticked_right r s (ticked_as.Answer u o) t end right is = let e : end ≡ Ok o = cc is in let f : t ≡ u = cc is in rw (e, f) right
ticked_right r s (ticked_as.GaveUp u why) t end right is = let e : end ≡ Err why = cc is in rw e right

ask_ends_none : (r : _) (t : ℕ) (end : Result Outcome Why) → progress_of (ToAsk r) ≡ Ends t end → ⊥
ask_ends_none (Ok (asked_as.Answer o)) t end is = cc is
ask_ends_none (Ok (asked_as.Sent u d)) t end is = cc is
ask_ends_none (Err why) t end is = cc is

right_end : (r : Register) (s : State) (call : ResolverCall) (a : Reply) (t : ℕ) (end : Result Outcome Why) → IsRight r s call a → progress_of a ≡ Ends t end → EndsRight r s t end
right_end r s call (ToAsk b) t end right is = absurd (ask_ends_none b t end is)
right_end r s (Ask x) (ToDatagram h) t end right is = heard_right r s h t end right is
right_end r s (Hear source bytes) (ToDatagram h) t end right is = heard_right r s h t end right is
right_end r s Tick (ToDatagram h) t end right is = heard_right r s h t end right is
right_end r s (Ask x) (ToTick h) t end right is = ticked_right r s h t end right is
right_end r s (Hear source bytes) (ToTick h) t end right is = ticked_right r s h t end right is
right_end r s Tick (ToTick h) t end right is = ticked_right r s h t end right is

-- a lookup that ends was pending
pub was_pending : {s new : State} {a : Reply} {t : ℕ} {end : Result Outcome Why} → Shape s new a → progress_of a ≡ Ends t end → (l : Pending) × (get s.pending t ≡ Some l)
was_pending (stays p n q) is = absurd (cc (q, is))
was_pending (sends u l from p n q) is = absurd (cc (q, is))
was_pending {s} {t = t} (drops u l e here p n q) is = let same : u ≡ t = cc (q, is) in (l, rw same at here)

-- ---- an end

assigned_for : (r : Register) (now t : ℕ) (s : State) (end : Result Outcome Why) (l : Pending) → EndsRight r (moved now s) t end → get s.pending t ≡ Some l
    → (q : ItrRequest) → IsFor s t q.xeid → IsAssigned r end q
assigned_for r now t s (Ok o) l right here q h = right l here ∙ ap (λ y. assignment r (xeid_path y)) (h.same l here)
assigned_for r now t s (Err why) l right here q h = tt

-- what is assigned, whatever the ticket is
abbrev pub Assigned : Register → ℕ → Result Outcome Why → ItrRequest → Type 0
Assigned r t = IsAssigned r

module _ {r : Register} (g : Grounds r) {me : Locator} {calls : List Call} {w : Running} (h : Waits w) (j : Stands r me calls w.state) (now : ℕ) (le : now ≤ last_moment) where
  abbrev s : State
  s = moved now w.state

  abbrev o : IsStateInOrder s
  o = (wait_moved h now le).waits.order

  abbrev sound : IsSound r s
  sound = (stands_moved g j now).sound

  well : {a : Reply} {new : State} (e : End) (after : List WaitingRequester) (q : ItrRequest) → Shape s new a → progress_of a ≡ Ends e.ticket e.end
      → EndsRight r s e.ticket e.end → TakesOff e.ticket w.desk.waiting after (Some (Itr q)) → EndsWell (Assigned r) w.state e q
  well e after q shape ends right takes =
      let l = was_pending shape ends in
      let others = assigned_for r now e.ticket w.state e.end l.0 right l.1 in
      record { first = others q (of_taken takes (IsOwnOf w.state) h.asked_for); others = others }

  pub ends_by : {call : ResolverCall} {new : State} {after : List WaitingRequester} (e : End) → IsFair r s call → (by_ : EndsBy call s new w.desk.waiting after e)
      → EndsWell (Assigned r) w.state e by_.request
  ends_by {call} {new} {after} e fair by_ =
      let right = (g.steps r s call new by_.reply g.accepted o sound fair by_.step).1 in
      well e after by_.request (of_step o by_.step).shape by_.ends (right_end r s call by_.reply e.ticket e.end right by_.ends) by_.takes

  pub ends_by_haste : {nonce : ℕ} {new : State} {after : List WaitingRequester} (e : End) → (by_ : EndsByHaste nonce s new w.desk.waiting after e)
      → EndsWell (Assigned r) w.state e by_.request
  ends_by_haste {nonce} {new} {after} e by_ =
      let right = (g.hastening r s nonce new by_.ticked g.accepted o sound by_.step).1 in
      well e after by_.request (of_haste o by_.step).shape by_.ends (ticked_right r s by_.ticked e.ticket e.end right by_.ends) by_.takes

-- ---- an end as registered

pub acked : (a : Action) (p q : List ℕ) (own servers : List Locator) → outcome_at a p own ≡ Registered q servers → a ≡ MsAck
acked NodeReferral p q own servers is = absurd (cc is)
acked MsReferral p q own servers is = absurd (cc is)
acked MsAck p q own servers is = refl
acked MsNotRegistered p q own servers is = absurd (cc is)
acked DelegationHole p q own servers is = absurd (cc is)
acked NotAuthoritative p q own servers is = absurd (cc is)

module _ {r : Register} (g : Grounds r) (s : State) (order : IsStateInOrder s) (from : Locator) (heard : List ℕ) (fair : IsFair r s (Hear from heard)) (new : State) (a : Reply)
    (step : Step s (Hear from heard) new a) (t : ℕ) (p : List ℕ) (servers : List Locator) (ends : progress_of a ≡ Ends t (Ok (Registered p servers)))
    (l : Pending) (here : get s.pending t ≡ Some l) (right : Registered p servers ≡ assignment r (xeid_path l.x)) where
  by_leaves : (m : Pending) (end : Result Outcome Why) → get s.pending t ≡ Some m → end ≡ Ok (Registered p servers) → Leaves s (Hear from heard) t m end
      → IsAssignedBy r (xeid_path l.x) p servers from
  by_leaves m end there is (moves.by_record rec takes final e) =
      let source : takes.source ≡ from = cc takes.called in
      let bytes : takes.bytes ≡ heard = cc takes.called in
      let same : m ≡ l = cc (here, there) in
      let said : rec ≡ says r from (xeid_path l.x) = rw same at (fair t m rec (rw (source, bytes) at takes.taken)) in
      let outcome : outcome_of rec ≡ Registered p servers = cc (is, e) in
      let acks = acked rec.action rec.prefix p rec.servers servers outcome in
      record {
        registered = sym right;
        among_them = acks_own r (xeid_path l.x) p servers g.accepted from (sym right) (ap (λ (v : ReferralRecord). v.action) (sym said) ∙ acks);
      }
  by_leaves m end there is (moves.by_kept rec due kept e) = absurd (cc (is, e))
  by_leaves m end there is (moves.by_loop rec takes refers not e) = absurd (cc (is, e))
  by_leaves m end there is (moves.by_nobody rec takes not none e) = absurd (cc (is, e))
  by_leaves m end there is (moves.by_silence due none e) = absurd (cc (is, e))
  by_leaves m end there is (moves.by_nonce none e) = absurd (cc (is, e))

  by_move : Move s (Hear from heard) new a → IsAssignedBy r (xeid_path l.x) p servers from
  by_move (moves.stays pending next q) = absurd (cc (q, ends))
  by_move (moves.opens k asked place first empty fresh is more few pending next f) = absurd (cc asked)
  by_move (moves.sends u old k found x goes is more pending next) = absurd (cc (goes_sends s (Hear from heard) a u old k goes, ends))
  by_move (moves.drops u m end there pending next f leaves) =
      let same : u ≡ t = cc (f, ends) in
      let is : end ≡ Ok (Registered p servers) = cc (f, ends) in
      by_leaves m end (rw same at there) is (rw same at leaves)

  registered_by : IsAssignedBy r (xeid_path l.x) p servers from
  registered_by = by_move (moved_by_step s order (Hear from heard) new a step).move

module _ {r : Register} (g : Grounds r) {me : Locator} {calls : List Call} {w : Running} (h : Waits w) (j : Stands r me calls w.state) (now : ℕ) (le : now ≤ last_moment) where
  -- what a datagram of a server ends as registered is assigned so, and this is one of its servers
  pub ends_registered : {from : Locator} {heard : List ℕ} {new : State} {after : List WaitingRequester} (e : End) → IsFair r (moved now w.state) (Hear from heard)
      → EndsBy (Hear from heard) (moved now w.state) new w.desk.waiting after e → (p : List ℕ) (servers : List Locator) → e.end ≡ Ok (Registered p servers)
      → (q : ItrRequest) → IsFor w.state e.ticket q.xeid → IsAssignedBy r (xeid_path q.xeid) p servers from
  ends_registered {from} {heard} {new} e fair by_ p servers is q own =
      let s = moved now w.state in
      let o = (wait_moved h now le).waits.order in
      let l = was_pending (of_step o by_.step).shape by_.ends in
      let both = (g.steps r s (Hear from heard) new by_.reply g.accepted o (stands_moved g j now).sound fair by_.step).1 in
      let ends : progress_of by_.reply ≡ Ends e.ticket (Ok (Registered p servers)) = rw is at by_.ends in
      let right : IsRightEnd r s e.ticket (Registered p servers) = right_end r s (Hear from heard) by_.reply e.ticket (Ok (Registered p servers)) both ends in
      let found = registered_by g s o from heard fair new by_.reply by_.step e.ticket p servers ends l.0 l.1 (right l.0 l.1) in
      let same : l.0.x ≡ q.xeid = own.same l.0 l.1 in
      rw same at found
