-- The table of pending lookups: each is in a slot of a slab, found by the nonce of its last request.
use Rattle.std.specs.Prelude.{ℕ, ◌<◌, ◌≤◌, ◌≡◌, ◌≢◌, Bool, map, Option, Some, refl}
use Rattle.std.specs.Ordering.{nat_cmp}
use Rattle.std.specs.FinMap.{FinMap, get, from_entries, code}
use Rattle.std.specs.Coded.{Coded, code_by, coded×, coded_ℕ, coded_bool}
use Rattle.slab.specs.Slab.{Slab, entries}
use Rattle.ddt_resolver.specs.declared.pending.Pending.{Pending}
use Rattle.ddt_resolver.specs.TicketedLookup.{TicketedLookup}

-- the lookups by their tickets; the nonce of the next request; for how many more lookups there is room; whether there
-- is room for that nonce
pub record Held : Type 0 where
  pub lookups : FinMap nat_cmp Pending
  pub next : ℕ
  pub spare : ℕ
  pub is_ready : Bool

-- how a compiled program may store it: as its parts
abbrev pub held_code : Coded Pending → Coded Held
held_code pending =
    code_by (FinMap nat_cmp Pending × (ℕ × (ℕ × Bool)))
    (coded× (code coded_ℕ pending) (coded× coded_ℕ (coded× coded_ℕ coded_bool)))
    (λ h. (h.lookups, (h.next, (h.spare, h.is_ready)))) (λ p.
    record { lookups = p.0; next = p.1.0; spare = p.1.1.0; is_ready = p.1.1.1 }) (λ _. refl)

-- a lookup with its ticket before it
abbrev pub ticketed : ℕ × TicketedLookup → ℕ × Pending
ticketed e = (e.1.ticket, e.1.lookup)

-- the lookups of a slab by their tickets
abbrev pub by_ticket : Slab TicketedLookup → FinMap nat_cmp Pending
by_ticket s = from_entries {R = nat_cmp} (map ticketed (entries s))

-- What holds of a table. Each lookup has a ticket of its own and a nonce that was given out, which leads to its slot.
-- No other nonce that was given out leads anywhere; the next one may, so that there is room for it. A lookup with a
-- lower nonce has no later deadline.
pub record IsTable (slot_of : ℕ → Option ℕ) (lookup_in : ℕ → Option TicketedLookup) (next : ℕ) : Type 0 where
  pub noted : (slot : ℕ) (w : TicketedLookup) → lookup_in slot ≡ Some w → slot_of w.lookup.nonce ≡ Some slot
  pub held : (nonce slot : ℕ) → slot_of nonce ≡ Some slot → nonce < next
      → (w : TicketedLookup) × (lookup_in slot ≡ Some w) × (w.lookup.nonce ≡ nonce)
  pub given : (nonce slot : ℕ) → slot_of nonce ≡ Some slot → nonce ≤ next
  pub nonces : (slot : ℕ) (w : TicketedLookup) → lookup_in slot ≡ Some w → w.lookup.nonce < next
  pub tickets : (i j : ℕ) (v w : TicketedLookup) → lookup_in i ≡ Some v → lookup_in j ≡ Some w
      → v.ticket ≡ w.ticket → i ≡ j
  pub rising : (i j : ℕ) (v w : TicketedLookup) → lookup_in i ≡ Some v → lookup_in j ≡ Some w
      → v.lookup.nonce < w.lookup.nonce → v.lookup.deadline ≤ w.lookup.deadline

-- no pending lookup has this nonce
abbrev pub IsUnknown : FinMap nat_cmp Pending → ℕ → Type 0
IsUnknown lookups nonce = (t : ℕ) (l : Pending) → get lookups t ≡ Some l → l.nonce ≢ nonce

-- the pending lookup of this ticket has this nonce
abbrev pub HasNonce : FinMap nat_cmp Pending → ℕ → ℕ → Type 0
HasNonce lookups ticket nonce = (l : Pending) × (get lookups ticket ≡ Some l) × (l.nonce ≡ nonce)

-- a lookup whose request is the next to be sent: it has the next nonce, and no pending one has a later deadline
pub record IsNext (h : Held) (lookup : Pending) : Type 0 where
  pub nonce : lookup.nonce ≡ h.next
  pub latest : (t : ℕ) (l : Pending) → get h.lookups t ≡ Some l → l.deadline ≤ lookup.deadline
  pub fits : h.next < 18446744073709551615

-- no due lookup has a nonce below this one
abbrev pub IsLeastDue : FinMap nat_cmp Pending → ℕ → ℕ → Type 0
IsLeastDue lookups time nonce = (u : ℕ) (m : Pending) → get lookups u ≡ Some m → m.deadline ≤ time → nonce ≤ m.nonce

-- the least deadline of the pending lookups: one has it, and none has an earlier one
pub record IsLeastDeadline (lookups : FinMap nat_cmp Pending) (deadline : ℕ) : Type 0 where
  pub ticket : ℕ
  pub lookup : Pending
  pub is_pending : get lookups ticket ≡ Some lookup
  pub own : lookup.deadline ≡ deadline
  pub least : (u : ℕ) (m : Pending) → get lookups u ≡ Some m → deadline ≤ m.deadline

-- no lookup is due
abbrev pub IsNoneDue : FinMap nat_cmp Pending → ℕ → Type 0
IsNoneDue lookups time = (u : ℕ) (m : Pending) → get lookups u ≡ Some m → time < m.deadline
