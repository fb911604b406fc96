use Rattle.std.proofs.Common.{◌≡◌, ap, sym, ◌∙◌}
use Rattle.ddt_resolver.specs.TicketedLookup.{TicketedLookup}
use Rattle.ddt_resolver.specs.laws.NumberMap.{get-remove_same, found_remove}
use Rattle.ddt_resolver.proofs.TableLemmas.{replaced}
use Rattle.ddt_resolver.proofs.table.Table.replace.Goals as goal

pub add-requires-clause-ticket : goal.add-requires-clause-ticket
add-requires-clause-ticket c = rw (c.in-Some.ensures.taken, ap (λ (w : TicketedLookup). w.ticket) c.before-in-Some.view_is) (get-remove_same c.args.self.now.lookups c.in-Some.before.ticket)

pub add-requires-clause-next : goal.add-requires-clause-next
add-requires-clause-next c = record {
  nonce = c.requires.next.nonce ∙ sym c.take.ensures.next;
  latest = λ t l found. c.requires.next.latest t l (found_remove c.args.self.now.lookups c.in-Some.before.ticket t l (rw c.in-Some.ensures.taken at found)).1;
  fits = rw c.take.ensures.next c.requires.next.fits;
}

pub returns-in-Some-clause-lookups : goal.returns-in-Some-clause-lookups
returns-in-Some-clause-lookups c = λ t has.
    let own : c.in-Some.before.ticket ≡ t = c.in-Some.ensures.only t has in
    let same : c.before-in-Some.inside.ticket ≡ t = ap (λ (w : TicketedLookup). w.ticket) c.before-in-Some.view_is ∙ own in
    rw (c.add.ensures.lookups, c.in-Some.ensures.taken, own, same) (replaced c.args.self.now.lookups t c.args.lookup)
