-- Each step keeps what holds of a resolver at all times.
use Rattle.std.proofs.Common.{◌≡◌, ℕ, ◌+◌, ◌<◌, ◌≤◌, List, Some, refl, sym, ap, ◌∙◌, subst, arith, inl, inr, nat_cmp}
use Rattle.std.specs.FinMap.{FinMap, get, insert, remove, len}
use Rattle.ddt_cache.specs.Moment.{last_moment}
use Rattle.ddt_cache.specs.InOrder.{IsCacheInOrder as IsKnownInOrder}
use Rattle.ddt_cache.specs.laws.Order.{moved_in_order, forgotten_in_order}
use Rattle.ddt_resolver.specs.declared.pending.Pending.{Pending}
use Rattle.ddt_resolver.specs.State.{State, last_nonce, most_pending, numbered, moved, request_sent, dropped, forgotten, tried_again, at_next}
use Rattle.ddt_resolver.specs.declared.results.Ticked.{Ticked}
use Rattle.ddt_resolver.specs.declared.step.Reply.{Reply}
use Rattle.ddt_resolver.specs.TickStep.{GoOn, again, next_place, answered, no_reply, used_up, HastenStep, unknown, hastened}
use Rattle.ddt_resolver.specs.Step.{ResolverCall, Step}
use Rattle.ddt_resolver.specs.Order.{IsLookup, IsWaiting, IsStateInOrder}
use Rattle.ddt_resolver.specs.laws.NumberMap.{found_insert, found_remove, len_replaced}
use Rattle.std.specs.Cmp.{nat_cmp_total}
use Rattle.ddt_path.specs.laws.MapSize.{len_inserted, len_removed}
use Rattle.ddt_resolver.specs.laws.Shape.{Move, stays, opens, sends, drops, IsMoved, moved_by_step, again_lookup, next_lookup}

-- nonces apart
abbrev pub Apart : FinMap nat_cmp Pending → Type 0
Apart p = (t u : ℕ) (l m : Pending) → get p t ≡ Some l → get p u ≡ Some m → l.nonce ≡ m.nonce → t ≡ u

pub apart_insert : (p : FinMap nat_cmp Pending) (v : ℕ) (new : Pending) → Apart p → ((t : ℕ) (l : Pending) → get p t ≡ Some l → l.nonce < new.nonce) → Apart (insert p v new)
apart_insert p v new apart below t u l m a b same =
    elim (found_insert p v new t l a) [
      | inl x ↦ elim (found_insert p v new u m b) [
        | inl y ↦ x.0 ∙ sym y.0
        | inr y ↦ let n : new.nonce ≡ l.nonce = ap (λ (k : Pending). k.nonce) x.1 in absurd (omega (arith, below u m y.1))
      ]
      | inr x ↦ elim (found_insert p v new u m b) [
        | inl y ↦ let n : new.nonce ≡ m.nonce = ap (λ (k : Pending). k.nonce) y.1 in absurd (omega (arith, below t l x.1))
        | inr y ↦ apart t u l m x.1 y.1 same
      ]
    ]

pub apart_remove : (p : FinMap nat_cmp Pending) (v : ℕ) → Apart p → Apart (remove p v)
apart_remove p v apart t u l m a b same = apart t u l m (found_remove p v t l a).1 (found_remove p v u m b).1 same

-- its number and its deadline are no part of what holds of a lookup
pub numbered_lookup : (s : State) (l : Pending) → IsLookup l → IsLookup (numbered s l)
numbered_lookup s l is = record {
  identifier = is.identifier;
  place = is.place;
  few = is.few;
  saved = is.saved;
  kept = is.kept;
  kept_action = is.kept_action;
  kept_place = is.kept_place;
  start = is.start;
  below_root = is.below_root;
  once = is.once;
}

module _ (s : State) (o : IsStateInOrder s) (new : State) (time : s.known.time ≤ new.known.time) (roots : new.known.roots ≡ s.known.roots) (known : IsKnownInOrder new.known) where
  later : (t : ℕ) (l : Pending) → s.next ≤ new.next → get s.pending t ≡ Some l → IsWaiting new t l
  later t l more found = let w : IsWaiting s t l = o.lookups t l found in record { lookup = w.lookup; ticket = w.ticket; nonce = omega (arith, w.nonce); deadline = omega (arith, w.deadline) }

  -- no lookup is added
  pub order_fewer : new.next ≡ s.next → len new.pending ≤ len s.pending → ((t : ℕ) (l : Pending) → get new.pending t ≡ Some l → get s.pending t ≡ Some l) → IsStateInOrder new
  order_fewer next few was = record {
    known = known;
    root = rw roots o.root;
    next = rw next o.next;
    few = omega (arith, o.few);
    lookups = λ t l found. later t l (omega arith) (was t l found);
    nonces = λ t u l m a b. o.nonces t u l m (was t l a) (was u m b);
  }

  -- a lookup sends its request, under a ticket that was given out or is the next
  pub order_placed : (t : ℕ) (l : Pending) → IsLookup l → t ≤ s.next → s.next < last_nonce → len new.pending ≤ most_pending
      → new.pending ≡ insert s.pending t (numbered s l) → new.next ≡ s.next + 1 → IsStateInOrder new
  order_placed t l is low more few put next = record {
    known = known;
    root = rw roots o.root;
    next = omega arith;
    few = few;
    lookups = λ u m found. elim (found_insert s.pending t (numbered s l) u m (ap (λ z. get z u) (sym put) ∙ found)) [
      | inl e ↦ subst (IsWaiting new u) e.1 (record { lookup = numbered_lookup s l is; ticket = omega (arith, e.0); nonce = omega arith; deadline = omega arith })
      | inr e ↦ later u m (omega arith) e.1
    ];
    nonces = rw put (apart_insert s.pending t (numbered s l) o.nonces (λ u m found. (o.lookups u m found).nonce));
  }

pub order_kept : (s : State) (call : ResolverCall) (new : State) (a : Reply) → IsStateInOrder s → IsMoved s call new a → IsStateInOrder new
order_kept s call new a o m = by m.move
  where
    time : s.known.time ≤ new.known.time
    time = let same : new.known.time ≡ s.known.time = m.time in omega arith

    by : Move s call new a → IsStateInOrder new
    by (stays p n q) = order_fewer s o new time m.roots m.known n (rw p (omega arith)) (λ t l found. ap (λ z. get z t) (sym p) ∙ found)
    by (opens l asked place first empty fresh is more few p n f) =
        order_placed s o new time m.roots m.known s.next l is (omega arith) more (rw p (omega (arith, len_inserted nat_cmp_total s.pending s.next (numbered s l)))) p n
    by (sends t old l here x goes is more p n) =
        let w : IsWaiting s t old = o.lookups t old here in
        order_placed s o new time m.roots m.known t l is (omega (arith, w.ticket, w.nonce)) more
        (rw (p, len_replaced s.pending t (numbered s l) old here) o.few) p n
    by (drops t l e here p n f why) =
        order_fewer s o new time m.roots m.known n (rw p (len_removed nat_cmp_total s.pending t))
        (λ u k found. (found_remove s.pending t u k (ap (λ z. get z u) (sym p) ∙ found)).1)

pub order_after : (s : State) (call : ResolverCall) (new : State) (a : Reply) → IsStateInOrder s → Step s call new a → IsStateInOrder new
order_after s call new a o step = order_kept s call new a o (moved_by_step s o call new a step)

-- time that goes on keeps it too
pub order_moved : (s : State) (now : ℕ) → now ≤ last_moment → IsStateInOrder s → IsStateInOrder (moved now s)
order_moved s now fits o = order_fewer s o (moved now s) (omega arith) refl (moved_in_order s.known now fits o.known) refl (omega arith) (λ t l found. found)

-- and so does the removal of a lookup
pub order_dropped : (s : State) (t : ℕ) → IsStateInOrder s → IsStateInOrder (dropped s t)
order_dropped s t o = order_fewer s o (dropped s t) (omega arith) refl o.known refl (len_removed nat_cmp_total s.pending t) (λ u l found. (found_remove s.pending t u l found).1)

-- and so does a prefix that is forgotten
pub order_forgotten : (s : State) (p : List ℕ) → IsStateInOrder s → IsStateInOrder (forgotten s p)
order_forgotten s p o = order_fewer s o (forgotten s p) (omega arith) refl (forgotten_in_order s.known p o.known) refl (omega arith) (λ t l found. found)

-- and so does a lookup that is hastened
pub order_hastened : (s : State) (nonce : ℕ) (new : State) (ticked : Ticked) → IsStateInOrder s → HastenStep s nonce new ticked → IsStateInOrder new
order_hastened s nonce new ticked o (unknown none e f) = rw e o
order_hastened s nonce new ticked o (hastened t l here its on) = by on
  where
    sent : (m : Pending) → IsLookup m → s.next < last_nonce → new ≡ request_sent s t m → IsStateInOrder new
    sent m is more e =
        let w : IsWaiting s t l = o.lookups t l here in
        rw e (order_placed s o (request_sent s t m) (omega arith) refl o.known t m is (omega (arith, w.ticket, w.nonce)) more
        (rw (len_replaced s.pending t (numbered s m) l here) o.few) refl refl)

    gone : new ≡ dropped s t → IsStateInOrder new
    gone e = rw e (order_dropped s t o)

    by : GoOn s t l new ticked → IsStateInOrder new
    by (again first more e f) = sent (tried_again l) (again_lookup s o t l here) more e
    by (next_place second room more e f) = sent (at_next l) (next_lookup s o t l here room) more e
    by (answered rec second last kept e f) = gone e
    by (no_reply second last none e f) = gone e
    by (used_up has none e f) = gone e
