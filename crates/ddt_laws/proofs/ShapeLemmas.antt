-- What a step, or a lookup that is hastened, does to the pending lookups.
use Rattle.std.proofs.Common.{◌≡◌, ◌⊎◌, ℕ, ◌+◌, Some, Result, Ok, Err, refl, ap, inl, inr}
use Rattle.std.specs.FinMap.{get, insert, remove}
use Rattle.ddt_path.specs.declared.record.Outcome.{Outcome}
use Rattle.ddt_path.specs.declared.record.Outcome.TheVariants.{NotRegistered}
use Rattle.ddt_resolver.specs.declared.pending.Pending.{Pending}
use Rattle.ddt_resolver.specs.declared.results.Why.{Why}
use Rattle.ddt_resolver.specs.declared.results.Why.TheVariants.{NoReply, Exhausted}
use Rattle.ddt_resolver.specs.declared.results.Ticked.{Ticked}
use Rattle.ddt_resolver.specs.declared.step.Reply.{Reply}
use Rattle.ddt_resolver.specs.declared.step.Reply.TheVariants.{ToTick}
use Rattle.ddt_resolver.specs.declared.step.Progress.TheVariants.{Stays, Sends, Ends}
use Rattle.ddt_resolver.specs.State.{State, numbered, request, tried_again, at_next}
use Rattle.ddt_resolver.specs.Order.{IsStateInOrder}
use Rattle.ddt_resolver.specs.Step.{ResolverCall, Step, progress_of}
use Rattle.ddt_resolver.specs.TickStep.{GoOn, again, next_place, answered, no_reply, used_up, HastenStep, unknown, hastened}
use Rattle.ddt_resolver.specs.laws.Order.{order_after, order_hastened}
use Rattle.ddt_resolver.specs.laws.Shape as moves
use Rattle.ddt_resolver.specs.laws.Shape.{Move, goes_sends, moved_by_step}

-- whose lookup it is that is pending under a ticket: of the same identifier as before, or a new one of the next ticket
abbrev pub ComesOf : State → ℕ → Pending → Type 0
ComesOf s t l = ((old : Pending) × (get s.pending t ≡ Some old) × (l.x ≡ old.x)) ⊎ (t ≡ s.next)

-- what is pending stays as it is, a request is sent for a lookup, or one ends
pub data Shape (s new : State) (a : Reply) : Type 0 where
  stays : new.pending ≡ s.pending → new.next ≡ s.next → progress_of a ≡ Stays → Shape s new a
  sends : (t : ℕ) (l : Pending) → ComesOf s t l → new.pending ≡ insert s.pending t (numbered s l) → new.next ≡ s.next + 1
      → progress_of a ≡ Sends t (request s l) → Shape s new a
  drops : (t : ℕ) (l : Pending) (end : Result Outcome Why) → get s.pending t ≡ Some l → new.pending ≡ remove s.pending t
      → new.next ≡ s.next → progress_of a ≡ Ends t end → Shape s new a

-- what a step, or a lookup that is hastened, makes of a resolver in order
pub record IsAct (s new : State) (a : Reply) : Type 0 where
  pub order : IsStateInOrder new
  pub own : new.me ≡ s.me
  pub shape : Shape s new a

of_move : {s : State} {call : ResolverCall} {new : State} {a : Reply} → Move s call new a → Shape s new a
of_move (moves.stays p n q) = stays p n q
of_move {s} (moves.opens l asked place first empty fresh is more few p n f) = sends s.next l (inr refl) p n (ap progress_of f)
of_move {s} {call} {new} {a} (moves.sends t old l found x goes is more p n) = sends t l (inl (old, found, x)) p n (goes_sends s call a t old l goes)
of_move (moves.drops t l e found p n f why) = drops t l e found p n f

pub of_step : {s : State} {call : ResolverCall} {new : State} {a : Reply} → IsStateInOrder s → Step s call new a → IsAct s new a
of_step {s} {call} {new} {a} o step =
    let m = moved_by_step s o call new a step in
    record { order = order_after s call new a o step; own = m.me; shape = of_move m.move }

went : {s new : State} {t : ℕ} {l : Pending} {ticked : Ticked} → get s.pending t ≡ Some l → GoOn s t l new ticked → Shape s new (ToTick ticked)
went {t = t} {l = l} here (again first more e f) = sends t (tried_again l) (inl (l, here, refl)) (rw e refl) (rw e refl) (rw f refl)
went {t = t} {l = l} here (next_place second room more e f) = sends t (at_next l) (inl (l, here, refl)) (rw e refl) (rw e refl) (rw f refl)
went {t = t} {l = l} here (answered rec second last kept e f) =
    drops t l (Ok (NotRegistered rec.prefix rec.servers)) here (rw e refl) (rw e refl) (rw f refl)
went {t = t} {l = l} here (no_reply second last none e f) = drops t l (Err NoReply) here (rw e refl) (rw e refl) (rw f refl)
went {t = t} {l = l} here (used_up has none e f) = drops t l (Err Exhausted) here (rw e refl) (rw e refl) (rw f refl)

hastened_shape : {s : State} {nonce : ℕ} {new : State} {ticked : Ticked} → HastenStep s nonce new ticked → Shape s new (ToTick ticked)
hastened_shape (unknown none e f) = stays (rw e refl) (rw e refl) (rw f refl)
hastened_shape (hastened t l here its on) = went here on

same_me : {s : State} {nonce : ℕ} {new : State} {ticked : Ticked} → HastenStep s nonce new ticked → new.me ≡ s.me
same_me (unknown none e f) = rw e refl
same_me (hastened t l here its (again first more e f)) = rw e refl
same_me (hastened t l here its (next_place second room more e f)) = rw e refl
same_me (hastened t l here its (answered rec second last kept e f)) = rw e refl
same_me (hastened t l here its (no_reply second last none e f)) = rw e refl
same_me (hastened t l here its (used_up has none e f)) = rw e refl

pub of_haste : {s : State} {nonce : ℕ} {new : State} {ticked : Ticked} → IsStateInOrder s → HastenStep s nonce new ticked → IsAct s new (ToTick ticked)
of_haste {s} {nonce} {new} {ticked} o step = record { order = order_hastened s nonce new ticked o step; own = same_me step; shape = hastened_shape step }
