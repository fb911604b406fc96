-- For which identifier a lookup is pending, of which somebody knows the ticket.
use Rattle.std.proofs.Common.{◌≡◌, ℕ, ◌<◌, List, [], ◌∷◌, ◌++◌, Option, Some, None, Result, Ok, Err, refl, sym, ap, ◌∙◌, inl, inr, arith}
use Rattle.std.specs.Prelude.{All}
use Rattle.std.specs.FinMap.{get}
use Rattle.std.proofs.lemmas.Option.{same_Some}
use Rattle.std.proofs.lemmas.List.Elements.{All-cons, All-head, All-tail}
use Rattle.ddt_path.specs.declared.locator.Locator.{Locator}
use Rattle.ddt_path.specs.declared.record.Outcome.{Outcome}
use Rattle.ddt_path.specs.declared.xeid.Xeid.{Xeid}
use Rattle.ddt_sockets.specs.declared.wire_calls.Call.{Call}
use Rattle.ddt_resolver.specs.declared.pending.Pending.{Pending}
use Rattle.ddt_resolver.specs.declared.results.Asked.TheVariants as asked_as
use Rattle.ddt_resolver.specs.declared.results.Outgoing.{Outgoing}
use Rattle.ddt_resolver.specs.declared.results.Why.{Why}
use Rattle.ddt_resolver.specs.declared.step.Progress.{Progress}
use Rattle.ddt_resolver.specs.declared.step.Progress.TheVariants.{Stays, Sends, Ends}
use Rattle.ddt_resolver.specs.declared.step.Reply.{Reply}
use Rattle.ddt_resolver.specs.declared.step.Reply.TheVariants.{ToAsk}
use Rattle.ddt_resolver.specs.State.{State, numbered}
use Rattle.ddt_resolver.specs.Step.{Ask, ResolverCall}
use Rattle.ddt_resolver.specs.laws.NumberMap.{get-insert_same, found_insert, found_remove}
use Rattle.ddt_resolver.specs.laws.Shape as moves
use Rattle.ddt_resolver.specs.laws.Shape.{Move, Goes}
use Rattle.ddt_loop.specs.declared.requester.Requester.{Requester}
use Rattle.ddt_loop.specs.declared.requester.Requester.TheVariants.{Identifier, Itr}
use Rattle.ddt_loop.specs.declared.requester.WaitingRequester.{WaitingRequester}
use Rattle.ddt_loop.specs.Requesters.{Desk, waiting_for, TakesOff, nobody, somebody}
use Rattle.ddt_loop.specs.Acts.{Proceeds, IsRequesterTold}
use Rattle.ddt_laws.proofs.ShapeLemmas.{Shape, stays, sends, drops}

-- a ticket was given out, and if its lookup is pending, it is for x
pub record IsFor (s : State) (t : ℕ) (x : Xeid) : Type 0 where
  pub given : t < s.next
  pub same : (l : Pending) → get s.pending t ≡ Some l → l.x ≡ x

pub for_on : {s new : State} {a : Reply} → Shape s new a → (t : ℕ) (x : Xeid) → IsFor s t x → IsFor new t x
for_on {s} {new} (stays p n q) t x h = record { given = omega (arith, h.given, n); same = λ l here. h.same l (rw p at here) }
for_on {s} {new} (sends u k from p n q) t x h = record {
  given = omega (arith, h.given, n);
  same = λ l here. elim (found_insert s.pending u (numbered s k) t l (rw p at here)) [
    | inl e ↦ elim from [
      | inl old ↦ ap (λ (m : Pending). m.x) (sym e.1) ∙ old.2 ∙ h.same old.0 (rw (← e.0) at old.1)
      | inr fresh ↦ absurd (omega (arith, e.0, fresh, h.given))
    ]
    | inr e ↦ h.same l e.1
  ];
}
for_on {s} {new} (drops u k end there p n q) t x h =
    record { given = omega (arith, h.given, n); same = λ l here. h.same l (found_remove s.pending u t l (rw p at here)).1 }

-- ---- who waits for lookups

-- the lookup of an ITR that waits is for what it asked for
abbrev pub IsOwn : State → ℕ → Requester → Type 0
IsOwn s t (Identifier place) = Unit {0}
IsOwn s t (Itr q) = IsFor s t q.xeid

abbrev pub IsOwnOf : State → WaitingRequester → Type 0
IsOwnOf s o = IsOwn s o.ticket o.requester

-- what is for an identifier at one state is so at another
abbrev pub Carries : State → State → Type 0
Carries s new = (t : ℕ) (x : Xeid) → IsFor s t x → IsFor new t x

own_on : {s new : State} → Carries s new → (t : ℕ) (who : Requester) → IsOwn s t who → IsOwn new t who
own_on on t (Identifier place) own = tt
own_on on t (Itr q) own = on t q.xeid own

pub all_own : {s new : State} → Carries s new → (waiting : List WaitingRequester) → All (IsOwnOf s) waiting → All (IsOwnOf new) waiting
all_own on waiting all i d lt = own_on on _ _ (all i d lt)

-- of the one who is taken off, and of those who are left
parted : (P : WaitingRequester → Type 0) (before : List WaitingRequester) (o : WaitingRequester) (after : List WaitingRequester) → All P (before ++ o ∷ after) → P o × All P (before ++ after)
parted P [] o after all = (All-head P o after all, All-tail P o after all)
parted P (p ∷ before) o after all =
    let rest = parted P before o after (All-tail P p _ all) in (rest.0, All-cons P p _ (All-head P p _ all) rest.1)

pub of_taken : {t : ℕ} {old new : List WaitingRequester} {who : Requester} → TakesOff t old new (Some who) → (P : WaitingRequester → Type 0) → All P old → P (waiting_for t who)
of_taken (nobody none e f) P all = absurd (cc f)
of_taken {t} {who = who} (somebody before after whom e f g) P all =
    let same : who ≡ whom = cc g in rw same (parted P before (waiting_for t whom) after (rw e at all)).0

of_left : {t : ℕ} {old new : List WaitingRequester} {taken : Option Requester} → TakesOff t old new taken → (P : WaitingRequester → Type 0) → All P old → All P new
of_left (nobody none e f) P all = rw e all
of_left {t} (somebody before after who e f g) P all = rw f (parted P before (waiting_for t who) after (rw e at all)).1

told_same : (me : Locator) (end : Result Outcome Why) (taken : Option Requester) (b : Desk) (calls : List Call) (after : Desk) → IsRequesterTold me end taken b calls after → after.waiting ≡ b.waiting
told_same me end None b calls after t = rw t.1 refl
told_same me end (Some (Identifier place)) b calls after t = rw t.1 refl
told_same me (Ok out) (Some (Itr q)) b calls after t = rw t.1 refl
told_same me (Err why) (Some (Itr q)) b calls after t = rw t.1 refl

-- whoever is left waited before
pub left_waiting : (P : WaitingRequester → Type 0) (me : Locator) (d : Desk) (p : Progress) (calls : List Call) (after : Desk) → Proceeds me d p calls after → All P d.waiting → All P after.waiting
left_waiting P me d Stays calls after goes all = rw goes.1 all
left_waiting P me d (Sends t out) calls after goes all = rw goes.1 all
left_waiting P me d (Ends t end) calls after goes all = rw (told_same me end goes.taken _ calls after goes.told) (of_left goes.takes P all)

-- ---- an ask

no_ask_goes : {s : State} {call : ResolverCall} {r : _} {t : ℕ} {l new : Pending} → Goes s call (ToAsk r) t l new → ⊥
no_ask_goes (moves.anew f place first empty) = cc f
no_ask_goes (moves.keeps source bytes rec called is f e) = cc f
no_ask_goes (moves.repeats f over first e) = cc f
no_ask_goes (moves.goes_on f over second more e) = cc f

-- the lookup that an ask starts is for what was asked
pub started_for : {s : State} {x : Xeid} {new : State} {t : ℕ} {d : Outgoing} → Move s (Ask x) new (ToAsk (Ok (asked_as.Sent t d))) → IsFor new t x
started_for (moves.stays p n q) = absurd (cc q)
started_for {s} {x} {new} {t} (moves.opens l asked place first empty fresh is more few p n f) =
    let at : t ≡ s.next = cc f in
    let own : x ≡ l.x = cc asked in record {
      given = omega (arith, at, n);
      same = λ k here. ap (λ (m : Pending). m.x) (same_Some k (numbered s l) (sym here ∙ rw (p, at) (get-insert_same s.pending s.next (numbered s l)))) ∙ sym own;
    }
started_for (moves.sends u old l found x goes is more p n) = absurd (no_ask_goes goes)
started_for (moves.drops u l e found p n f why) = absurd (cc f)
