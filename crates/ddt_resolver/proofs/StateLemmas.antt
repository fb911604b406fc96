-- Equations of states, and what holds of the states that a resolver's parts make.
use Rattle.std.proofs.Common.{◌≡◌, ℕ, ◌+◌, ◌<◌, ◌≤◌, max, List, length, Option, Some, None, refl, sym, arith, nat_cmp}
use Rattle.std.specs.Prelude.{IfSome, IfNone}
use Rattle.std.specs.FinMap.{FinMap, get, insert, remove, len, get-empty, len-empty}
use Rattle.ddt_path.specs.declared.locator.Locator.{Locator}
use Rattle.ddt_path.specs.declared.record.ReferralRecord.{ReferralRecord}
use Rattle.ddt_cache.specs.Live.{Known, live_at}
use Rattle.ddt_cache.specs.Live as cache
use Rattle.ddt_cache.specs.InOrder.{IsCacheInOrder as IsKnownInOrder}
use Rattle.ddt_cache.specs.laws.Live.{live_at-all}
use Rattle.ddt_cache.specs.laws.Order.{nothing_in_order, stored_in_order, forgotten_in_order}
use Rattle.ddt_resolver.specs.declared.pending.Pending.{Pending}
use Rattle.ddt_resolver.specs.declared.requests.Change.{Change}
use Rattle.ddt_resolver.specs.declared.requests.Change.TheVariants.{Keep, Save, Forget}
use Rattle.ddt_resolver.specs.State.{State, last_nonce, most_pending, fresh, numbered, stored, changed}
use Rattle.ddt_resolver.specs.TicketedLookup.{TicketedLookup}
use Rattle.ddt_resolver.specs.Table.{Held, HasNonce, IsNext}
use Rattle.ddt_resolver.specs.Acting.{IsSmall}
use Rattle.ddt_resolver.specs.Order.{IsLookup, IsWaiting, IsStateInOrder}
use Rattle.ddt_resolver.specs.laws.NumberMap.{len_replaced}
use Rattle.std.specs.Cmp.{nat_cmp_total}
use Rattle.ddt_path.specs.laws.MapSize.{len_inserted}
use Rattle.ddt_resolver.specs.laws.Order.{order_fewer, order_placed, order_dropped}
use Rattle.ddt_resolver.proofs.TableLemmas.{holds_none}

-- the time moved to itself changes nothing
pub moved_to_itself : (k : Known) (t : ℕ) → t ≡ k.time → IsKnownInOrder k → cache.moved t k ≡ k
moved_to_itself k t e o =
    let same : max k.time t ≡ k.time = omega arith in
    rw (same, live_at-all k.time k.live (λ q e h. (o.entries q e h).live))

-- ---- what holds of all pending lookups

module _ (s : State) (o : IsStateInOrder s) where
  pub next_absent : get s.pending s.next ≡ None
  next_absent = holds_none _ (λ l e. let w : IsWaiting s s.next l = o.lookups s.next l e in omega (arith, w.nonce, w.ticket))

  pub order_stored : (rec : ReferralRecord) → length rec.servers ≤ 8 → IsStateInOrder (stored s rec)
  order_stored rec few = order_fewer s o (stored s rec) (omega arith) refl (stored_in_order s.known rec few o.known) refl (omega arith) (λ t l found. found)

  changed_order : (change : Change) → IsSmall change → (s.known.time ≤ (changed s.known change).time) × ((changed s.known change).roots ≡ s.known.roots) × IsKnownInOrder (changed s.known change)
  changed_order Keep small = (omega arith, refl, o.known)
  changed_order (Save rec) small = (omega arith, refl, stored_in_order s.known rec small o.known)
  changed_order (Forget p) small = (omega arith, refl, forgotten_in_order s.known p o.known)

  -- a lookup is opened
  pub order_opened : (p : FinMap nat_cmp Pending) (l : Pending) → IsLookup l → s.next < last_nonce → len s.pending < most_pending → p ≡ insert s.pending s.next (numbered s l)
      → IsStateInOrder (record { known = s.known; me = s.me; next = s.next + 1; pending = p })
  order_opened p l is more few put =
      order_placed s o _ (omega arith) refl o.known s.next l is (omega arith) more (rw put (omega (arith, len_inserted nat_cmp_total s.pending s.next (numbered s l)))) put refl

  -- a lookup goes on
  pub order_sent : (k : Known) (p : FinMap nat_cmp Pending) (change : Change) (t : ℕ) (l : Pending) → IsSmall change → HasNonce s.pending t l.nonce → IsLookup l → s.next < last_nonce
      → k ≡ changed s.known change → p ≡ insert s.pending t (numbered s l) → IsStateInOrder (record { known = k; me = s.me; next = s.next + 1; pending = p })
  order_sent k p change t l small there is more known put =
      let c = changed_order change small in
      let w : IsWaiting s t there.0 = o.lookups t there.0 there.1 in
      rw known (order_placed s o (record { known = changed s.known change; me = s.me; next = s.next + 1; pending = p }) c.0 c.1 c.2 t l is
      (omega (arith, w.ticket, w.nonce)) more (rw (put, len_replaced s.pending t (numbered s l) there.0 there.1) o.few) put refl)

  -- a lookup whose request is sent has the next nonce and the last deadline
  pub is_next : (h : Held) (l n : Pending) → h.lookups ≡ s.pending → h.next ≡ s.next → s.next < last_nonce → n ≡ numbered s l → IsNext h n
  is_next h l n same next more is = rw is (record {
    nonce = sym next;
    latest = λ t k found. let w : IsWaiting s t k = o.lookups t k (rw same at found) in w.deadline;
    fits = omega arith;
  })

  -- a lookup is taken out, or none is
  pub order_taken : (p : FinMap nat_cmp Pending) (next : ℕ) (taken : Option TicketedLookup) → IfSome taken (λ w. p ≡ remove s.pending w.ticket) → IfNone taken (p ≡ s.pending) → next ≡ s.next
      → IsStateInOrder (record { known = s.known; me = s.me; next = next; pending = p })
  order_taken p next None gone kept same = rw (same, kept) o
  order_taken p next (Some w) gone kept same = rw (same, gone) (order_dropped s w.ticket o)

-- a resolver that has heard nothing
pub order_fresh : (roots : List Locator) (me : Locator) (seed : ℕ) → 0 < length roots → length roots ≤ 8 → seed ≤ last_nonce → IsStateInOrder (fresh roots me seed)
order_fresh roots me seed some few fits = record {
  known = nothing_in_order roots few;
  root = some;
  next = fits;
  few = rw (len-empty nat_cmp Pending) (omega arith);
  lookups = λ t l found. cc (get-empty {K = ℕ} {X = Pending} nat_cmp t);
  nonces = λ t u l m a b same. cc (get-empty {K = ℕ} {X = Pending} nat_cmp t);
}
