-- What a step, or a lookup that is hastened, does to the pending lookups.
use Rattle.std.proofs.Common.{◌≡◌, ◌⊎◌, ℕ, ◌+◌, ◌≤◌, Some, Result, Ok, Err, refl, ap, inl, inr, arith}
use Rattle.std.specs.FinMap.{get, insert, remove}
use Rattle.ddt_path.specs.declared.record.Outcome.{Outcome}
use Rattle.ddt_path.specs.declared.record.Outcome.TheVariants.{NotRegistered}
use Rattle.ddt_resolver.specs.declared.pending.Pending.{Pending}
use Rattle.ddt_resolver.specs.declared.results.Why.{Why}
use Rattle.ddt_resolver.specs.declared.results.Why.TheVariants.{NoReply, Exhausted}
use Rattle.ddt_resolver.specs.declared.results.Ticked.{Ticked}
use Rattle.ddt_resolver.specs.declared.step.Reply.{Reply}
use Rattle.ddt_resolver.specs.declared.step.Reply.TheVariants.{ToTick}
use Rattle.ddt_resolver.specs.declared.step.Progress.TheVariants.{Stays, Sends, Ends}
use Rattle.ddt_resolver.specs.State.{State, numbered, request, tried_again, at_next}
use Rattle.ddt_resolver.specs.Step.{ResolverCall, progress_of}
use Rattle.ddt_resolver.specs.TickStep.{GoOn, again, next_place, answered, no_reply, used_up, HastenStep, unknown, hastened}
use Rattle.ddt_resolver.specs.laws.Shape as moves
use Rattle.ddt_resolver.specs.laws.Shape.{Move, goes_sends}

-- whose lookup it is that is pending under a ticket: of the same identifier as before, or a new one of the next ticket
abbrev pub ComesOf : State → ℕ → Pending → Type 0
ComesOf s t l = ((old : Pending) × (get s.pending t ≡ Some old) × (l.x ≡ old.x)) ⊎ (t ≡ s.next)

-- what is pending stays as it is, a request is sent for a lookup, or one ends
pub data Shape (s new : State) (a : Reply) : Type 0 where
  stays : new.pending ≡ s.pending → new.next ≡ s.next → progress_of a ≡ Stays → Shape s new a
  sends : (t : ℕ) (l : Pending) → ComesOf s t l → new.pending ≡ insert s.pending t (numbered s l) → new.next ≡ s.next + 1
      → progress_of a ≡ Sends t (request s l) → Shape s new a
  drops : (t : ℕ) (l : Pending) (end : Result Outcome Why) → get s.pending t ≡ Some l → new.pending ≡ remove s.pending t
      → new.next ≡ s.next → progress_of a ≡ Ends t end → Shape s new a

pub of_move : {s : State} {call : ResolverCall} {new : State} {a : Reply} → Move s call new a → Shape s new a
of_move (moves.stays p n q) = stays p n q
of_move {s} (moves.opens l asked place first empty fresh is more few p n f) = sends s.next l (inr refl) p n (ap progress_of f)
of_move {s} {call} {new} {a} (moves.sends t old l found x goes is more p n) = sends t l (inl (old, found, x)) p n (goes_sends s call a t old l goes)
of_move (moves.drops t l e found p n f why) = drops t l e found p n f

went : {s new : State} {t : ℕ} {l : Pending} {ticked : Ticked} → get s.pending t ≡ Some l → GoOn s t l new ticked → Shape s new (ToTick ticked)
went {t = t} {l = l} here (again first more e f) = sends t (tried_again l) (inl (l, here, refl)) (rw e refl) (rw e refl) (rw f refl)
went {t = t} {l = l} here (next_place second room more e f) = sends t (at_next l) (inl (l, here, refl)) (rw e refl) (rw e refl) (rw f refl)
went {t = t} {l = l} here (answered rec second last kept e f) =
    drops t l (Ok (NotRegistered rec.prefix rec.servers)) here (rw e refl) (rw e refl) (rw f refl)
went {t = t} {l = l} here (no_reply second last none e f) = drops t l (Err NoReply) here (rw e refl) (rw e refl) (rw f refl)
went {t = t} {l = l} here (used_up has none e f) = drops t l (Err Exhausted) here (rw e refl) (rw e refl) (rw f refl)

pub of_haste : {s : State} {nonce : ℕ} {new : State} {ticked : Ticked} → HastenStep s nonce new ticked → Shape s new (ToTick ticked)
of_haste (unknown none e f) = stays (rw e refl) (rw e refl) (rw f refl)
of_haste (hastened t l here its on) = went here on

-- nonces are given out in their order
pub next_grows : {s new : State} {a : Reply} → Shape s new a → s.next ≤ new.next
next_grows (stays p n q) = omega arith
next_grows (sends t l from p n q) = omega arith
next_grows (drops t l e here p n q) = omega arith

-- a lookup that ends was pending
pub was_pending : {s new : State} {a : Reply} {t : ℕ} {end : Result Outcome Why} → Shape s new a → progress_of a ≡ Ends t end
    → (l : Pending) × (get s.pending t ≡ Some l)
was_pending (stays p n q) is = absurd (cc (q, is))
was_pending (sends u l from p n q) is = absurd (cc (q, is))
was_pending {s} {t = t} (drops u l e here p n q) is = let same : u ≡ t = cc (q, is) in (l, rw same at here)
