use Rattle.std.proofs.Common.{◌≡◌, ℕ, Some, Contains}
use Rattle.slab.specs.Slab.{get}
use Rattle.ddt_resolver.specs.TicketedLookup.{TicketedLookup}
use Rattle.ddt_resolver.proofs.table.nonce_of.Given as goal

-- every lookup of the slab with the ticket is among the entries that are left, and every entry left is the slab's
abbrev pub invariant-loop-slot : goal.invariant-loop-slot
invariant-loop-slot l =
    (goal.iterator-loop-slot).can_next l._slot-iterator ×
    (goal.iterator-loop-slot).is_finite l._slot-iterator ×
    ((slot : ℕ) (w : TicketedLookup) → get l.lookups slot ≡ Some w → w.ticket ≡ l.ticket → Contains l._slot-iterator (slot, w)) ×
    ((slot : ℕ) (w : TicketedLookup) → Contains l._slot-iterator (slot, w) → get l.lookups slot ≡ Some w)
