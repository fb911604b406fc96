use Rattle.std.proofs.Common.{sym}
use Rattle.ddt_resolver.proofs.TableLemmas.{not_given, not_noted, pair_in_map}
use Rattle.ddt_resolver.proofs.table.Table.with_nonce.Goals as goal

pub returns-then-nonce-self-clause-none : goal.returns-then-nonce-self-clause-none
returns-then-nonce-self-clause-none c = not_given c.self.inside.lookups c.self.invariant c.self.view_is c.args.nonce c.if-nonce-self.true

pub returns-in-Some-clause-found : goal.returns-in-Some-clause-found
returns-in-Some-clause-found c = pair_in_map c.self.inside.lookups c.self.invariant c.self.view_is _ _ c.ticket_and_lookup.ensures.found

pub returns-in-None-clause-none : goal.returns-in-None-clause-none
returns-in-None-clause-none c = not_noted c.self.inside.lookups c.self.invariant c.self.view_is c.args.nonce (sym c.in-None.ensures.value)
