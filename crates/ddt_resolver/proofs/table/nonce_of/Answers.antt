use Rattle.std.proofs.Common.{ℕ, ap, inl, inr, sym, ◌∙◌, refl, arith}
use Rattle.slab.proofs.SlabLemmas.{Contains-cons, Contains-cons_cases, Contains-entries}
use Rattle.ddt_resolver.specs.TicketedLookup.{TicketedLookup}
use Rattle.ddt_resolver.proofs.table.nonce_of.Goals as goal

pub loop-slot-init : goal.loop-slot-init
loop-slot-init c =
    let left = c.into_iter-slot-iterator.ensures.into_iter_gives ∙ c.iter-slot-items.ensures.rest in (
      tt,
      tt,
      λ slot w found same. rw left ((Contains-entries c.args.lookups.now slot w).1 found),
      λ slot w there. (Contains-entries c.args.lookups.now slot w).0 (rw left at there),
    )

pub loop-slot-preserved : goal.loop-slot-preserved
loop-slot-preserved c =
    let at = c.in-Some.ensures.steps in (
      tt,
      tt,
      λ slot w found same. elim (Contains-cons_cases _ _ _ (rw at at (c.loop-slot.invariant.2 slot w found same))) [
        | inl e ↦ elim (c.if-waiting-ticket.false (ap (λ (x : TicketedLookup). x.ticket) c.waiting.view_is ∙ ap (λ (x : ℕ × TicketedLookup). x.1.ticket) e ∙ same)) [ ]
        | inr rest ↦ rest
      ],
      λ slot w there. c.loop-slot.invariant.3 slot w (rw at (Contains-cons _ _ _ there)),
    )

pub returns-then-waiting-ticket-clause-found : goal.returns-then-waiting-ticket-clause-found
returns-then-waiting-ticket-clause-found c =
    let at = c.in-Some.ensures.steps in (
      c.in-Some._slot,
      c.in-Some.waiting.now,
      c.loop-slot.invariant.3 c.in-Some._slot c.in-Some.waiting.now (rw at (0, omega arith, refl)),
      ap (λ (x : TicketedLookup). x.ticket) (sym c.waiting.view_is) ∙ c.if-waiting-ticket.true,
      ap (λ (x : TicketedLookup). x.lookup.nonce) (sym c.waiting.view_is),
    )
