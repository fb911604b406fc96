use Rattle.std.proofs.Common.{ap, sym, ◌∙◌, Option}
use Rattle.std.specs.Prelude.{is_some}
use Rattle.std.specs.FinMap.{get}
use Rattle.ddt_resolver.specs.declared.pending.Pending.{Pending}
use Rattle.ddt_resolver.specs.Table.{HasNonce}
use Rattle.ddt_resolver.proofs.TableLemmas.{in_map, taken_out, is_taken, absent_removed, ticket_absent}
use Rattle.ddt_resolver.proofs.table.Table.cancel.Goals as goal
use Rattle.ddt_resolver.proofs.table.Table.cancel.Goals.{In-Some}

has : (c : In-Some) → HasNonce c.args.self.now.lookups c.args.ticket c.in-Some.nonce
has c =
    let f = c.in-Some.ensures.found in
    (f.1.lookup, ap (get c.args.self.now.lookups) (sym f.3) ∙ in_map c.self.inside.lookups c.self.invariant c.self.view_is f.0 f.1 f.2, f.4)

pub returns-in-Some-clause-removed : goal.returns-in-Some-clause-removed
returns-in-Some-clause-removed c =
    taken_out _ _ c.args.ticket c.in-Some.nonce (has (goal.at.returns-in-Some-clause-removed c).In-Some) _ c.take.ensures.taken c.take.ensures.only c.take.ensures.none

pub returns-in-Some-clause-there : goal.returns-in-Some-clause-there
returns-in-Some-clause-there c =
    let h = has (goal.at.returns-in-Some-clause-there c).In-Some in
    c.is_some.ensures ∙ is_taken _ c.take.new.self.lookups c.args.ticket c.in-Some.nonce h _ c.take.ensures.none ∙ sym (ap (λ (o : Option Pending). is_some o) h.1)

pub returns-in-None-clause-removed : goal.returns-in-None-clause-removed
returns-in-None-clause-removed c = absent_removed _ c.args.ticket (ticket_absent c.self.inside.lookups c.self.invariant c.self.view_is c.args.ticket c.in-None.ensures.none)

pub returns-in-None-clause-there : goal.returns-in-None-clause-there
returns-in-None-clause-there c = rw (ticket_absent c.self.inside.lookups c.self.invariant c.self.view_is c.args.ticket c.in-None.ensures.none)
