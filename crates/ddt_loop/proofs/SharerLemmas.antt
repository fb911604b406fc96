-- Those who share lookups: what holds of them, and that each is told at most once.
use Rattle.std.proofs.lemmas.Bool.{eqb-true}
use Rattle.std.proofs.Common.{◌≡◌, ℕ, ◌<◌, Bool, true, false, List, [], ◌∷◌, ◌++◌, append-nil, append_assoc, Some, Result, Ok, Err, refl, sym, ap, ◌∙◌, inl, inr, arith}
use Rattle.std.specs.Prelude.{All, map, ◌==◌}
use Rattle.std.specs.FinMap.{get}
use Rattle.std.proofs.lemmas.Option.{same_Some}
use Rattle.std.proofs.lemmas.List.Elements.{All-nil, All-cons, All-head, All-tail, All-contains}
use Rattle.ddt_path.specs.declared.record.Outcome.{Outcome}
use Rattle.ddt_path.specs.Path.{xeid_path}
use Rattle.ddt_register.specs.declared.register.Register.{Register}
use Rattle.ddt_check.specs.Assignment.{assignment}
use Rattle.ddt_sockets.specs.declared.wire_calls.Call.{Call}
use Rattle.ddt_resolver.specs.declared.itr_messages.ItrRequest.{ItrRequest}
use Rattle.ddt_resolver.specs.declared.pending.Pending.{Pending}
use Rattle.ddt_resolver.specs.declared.results.Why.{Why}
use Rattle.ddt_resolver.specs.State.{State, numbered}
use Rattle.ddt_resolver.specs.Order.{IsStateInOrder}
use Rattle.ddt_resolver.specs.laws.NumberMap.{found_insert, found_remove}
use Rattle.ddt_loop.specs.Ends.{IsToldEnd}
use Rattle.ddt_loop.specs.declared.requester.Requester.TheVariants.{Itr}
use Rattle.ddt_loop.specs.declared.requester.WaitingRequester.{WaitingRequester}
use Rattle.ddt_loop.specs.Requesters.{waiting_for}
use Rattle.ddt_loop.specs.Sharing.{Sharer, IsAskedBy, sharing, not_sharing, AreToldEnd, nobody, one}
use Rattle.ddt_loop.specs.Right.{Owes, forgotten}
use Rattle.ddt_loop.proofs.CallLemmas.{owes_told}
use Rattle.ddt_loop.proofs.ShapeLemmas as shape
use Rattle.ddt_loop.proofs.ShapeLemmas.{Shape, next_grows}
use Rattle.ddt_loop.proofs.KeepLemmas.{EndsRight, WaitsFor}

-- if the lookup that somebody shares is pending, it is for the identifier that was asked for
pub record Shares (s : State) (j : Sharer) : Type 0 where
  pub given : j.ticket < s.next
  pub same : (l : Pending) → get s.pending j.ticket ≡ Some l → l.x ≡ j.request.xeid

pub may_share : {s : State} (waiting : List WaitingRequester) (j : Sharer) → IsStateInOrder s → All (WaitsFor [] s) waiting → IsAskedBy waiting j.ticket j.request.xeid → Shares s j
may_share {s} waiting j o waits m =
    let there = All-contains (WaitsFor [] s) waiting (waiting_for j.ticket (Itr m.0)) waits m.1 in
    let w = o.lookups j.ticket there.0 there.1 in record {
      given = omega (arith, w.ticket, w.nonce);
      same = λ l here. ap (λ (k : Pending). k.x) (same_Some l there.0 (sym here ∙ there.1)) ∙ sym there.2 ∙ m.2;
    }

pub shares_on : {s new : State} {a : _} → Shape s new a → (j : Sharer) → Shares s j → Shares new j
shares_on {s} {new} move j h = record { given = omega (arith, h.given, next_grows move); same = by move }
  where
    by : {a : _} → Shape s new a → (m : Pending) → get new.pending j.ticket ≡ Some m → m.x ≡ j.request.xeid
    by (shape.stays p n q) m found = h.same m (rw p at found)
    by (shape.sends t l from p n q) m found = elim (found_insert s.pending t (numbered s l) j.ticket m (rw p at found)) [
      | inl e ↦ elim from [
        | inl old ↦ ap (λ (k : Pending). k.x) (sym e.1) ∙ old.2 ∙ h.same old.0 (rw (← e.0) at old.1)
        | inr fresh ↦ absurd (omega (arith, e.0, fresh, h.given))
      ]
      | inr e ↦ h.same m e.1
    ]
    by (shape.drops t l end here p n q) m found = h.same m (found_remove s.pending t j.ticket m (rw p at found)).1

pub all_share : {s new : State} {a : _} → Shape s new a → (js : List Sharer) → All (Shares s) js → All (Shares new) js
all_share move js all i d lt = shares_on move _ (all i d lt)

-- ---- who is left

left_cons : (P : Sharer → Type 0) (t : ℕ) (j : Sharer) (js : List Sharer) (b : Bool) → (j.ticket == t) ≡ b → P j → All P (not_sharing t js) → All P (not_sharing t (j ∷ js))
left_cons P t j js true e here others = rw e others
left_cons P t j js false e here others = rw e (All-cons P j _ here others)

pub all_left : (P : Sharer → Type 0) (t : ℕ) (js : List Sharer) → All P js → All P (not_sharing t js)
all_left P t [] all = All-nil P
all_left P t (j ∷ js) all = left_cons P t j js (j.ticket == t) refl (All-head P j js all) (all_left P t js (All-tail P j js all))

-- ---- who is told

abbrev pub requests : List Sharer → List ItrRequest
requests js = map (λ (j : Sharer). j.request) js

pub requests_push : (js : List Sharer) (j : Sharer) → requests (js ++ j ∷ []) ≡ requests js ++ j.request ∷ []
requests_push [] j = refl
requests_push (k ∷ js) j = ap (λ (rest : List ItrRequest). k.request ∷ rest) (requests_push js j)

-- the end of a lookup is right for a request that shares it
abbrev pub IsRightFor : Register → Result Outcome Why → ItrRequest → Type 0
IsRightFor r (Ok o) q = o ≡ assignment r (xeid_path q.xeid)
IsRightFor r (Err why) q = Unit {0}

pub right_for : (r : Register) (s : State) (t : ℕ) (end : Result Outcome Why) (l : Pending) → EndsRight r s t end → get s.pending t ≡ Some l → (j : Sharer) → Shares s j
    → j.ticket ≡ t → IsRightFor r end j.request
right_for r s t (Ok o) l right here j h same =
    right l here ∙ ap (λ y. assignment r (xeid_path y)) (h.same l (rw same here))
right_for r s t (Err why) l right here j h same = tt

told_one : {r me calls : _} (before after : List ItrRequest) (q : ItrRequest) (end : Result Outcome Why) (tries : _) → IsRightFor r end q → IsToldEnd me end q tries
    → Owes r me calls (before ++ q ∷ after) → Owes r me (calls ++ tries) (before ++ after)
told_one before after q (Ok o) tries right told owes = owes_told before after q o tries owes right told
told_one {calls = calls} before after q (Err why) tries right told owes = rw (told, append-nil calls) (forgotten before after q owes)

first_told : {r me : _} (calls : List Call) (before : List ItrRequest) (t : ℕ) (end : Result Outcome Why) (j : Sharer) (js : List Sharer) (others : List ItrRequest) (tries : _)
    → IsRightFor r end j.request → AreToldEnd me end (j.request ∷ others) tries → others ≡ sharing t js → Owes r me calls (before ++ j.request ∷ requests js)
    → ((cs more : List Call) → AreToldEnd me end (sharing t js) more → Owes r me cs (before ++ requests js) → Owes r me (cs ++ more) (before ++ requests (not_sharing t js)))
    → Owes r me (calls ++ tries) (before ++ requests (not_sharing t js))
first_told calls before t end j js others tries right (one q rest c m first later) is owes again =
    rw append_assoc at (again (calls ++ c) m (rw is at later) (told_one before (requests js) j.request end c right first owes))

told_cons : {r me : _} (calls : List Call) (before : List ItrRequest) (t : ℕ) (end : Result Outcome Why) (j : Sharer) (js : List Sharer) (tries : _) (b : Bool) → (j.ticket == t) ≡ b
    → (j.ticket ≡ t → IsRightFor r end j.request) → AreToldEnd me end (sharing t (j ∷ js)) tries → Owes r me calls (before ++ j.request ∷ requests js)
    → ((bs : List ItrRequest) (cs more : List Call) → AreToldEnd me end (sharing t js) more → Owes r me cs (bs ++ requests js) → Owes r me (cs ++ more) (bs ++ requests (not_sharing t js)))
    → Owes r me (calls ++ tries) (before ++ requests (not_sharing t (j ∷ js)))
told_cons calls before t end j js tries true e right told owes again =
    rw e (first_told calls before t end j js (sharing t js) tries (right (eqb-true j.ticket t e)) (rw e at told) refl owes (again before))
told_cons calls before t end j js tries false e right told owes again =
    rw e (rw append_assoc at (again (before ++ j.request ∷ []) calls tries (rw e at told) (rw append_assoc owes)))

pub told_all : {r me : _} (calls : List Call) (before : List ItrRequest) (t : ℕ) (end : Result Outcome Why) (js : List Sharer) (tries : _)
    → All (λ j. j.ticket ≡ t → IsRightFor r end j.request) js → AreToldEnd me end (sharing t js) tries
    → Owes r me calls (before ++ requests js) → Owes r me (calls ++ tries) (before ++ requests (not_sharing t js))
told_all calls before t end [] tries all nobody owes = rw append-nil owes
told_all {r} calls before t end (j ∷ js) tries all told owes =
    let P = λ (k : Sharer). k.ticket ≡ t → IsRightFor r end k.request in
    told_cons calls before t end j js tries (j.ticket == t) refl (All-head P j js all) told owes
    (λ bs cs more later owed. told_all cs bs t end js more (All-tail P j js all) later owed)
