use Rattle.std.proofs.Common.{arith}
use Rattle.std.proofs.lemmas.Option.{IfSome_then}
use Rattle.std.proofs.lemmas.Bool.{false≢true}
use Rattle.ddt_resolver.proofs.TableLemmas.{under, pair_in_map, at_or_above, least_nonce, first_deadline, no_lookup, no_first}
use Rattle.ddt_resolver.proofs.table.Table.first.Goals as goal

pub returns-then-nonce-self-clause-found : goal.returns-then-nonce-self-clause-found
returns-then-nonce-self-clause-found c = pair_in_map c.self.inside.lookups c.self.invariant c.self.view_is _ _ c.ticket_and_lookup.ensures.found

pub returns-then-nonce-self-clause-least : goal.returns-then-nonce-self-clause-least
returns-then-nonce-self-clause-least c = IfSome_then c.ticket_and_lookup.result c.ticket_and_lookup.ensures.found (λ p there.
    least_nonce c.self.inside.lookups c.self.invariant c.self.view_is _ _ c.in-Some.ensures.value (under p.0 p.1) c.if-nonce-self.true there
    (at_or_above c.self.inside.slots _ c.in-Some.ensures.least))

pub returns-then-nonce-self-clause-soonest : goal.returns-then-nonce-self-clause-soonest
returns-then-nonce-self-clause-soonest c = IfSome_then c.ticket_and_lookup.result c.ticket_and_lookup.ensures.found (λ p there.
    first_deadline c.self.inside.lookups c.self.invariant c.self.view_is _ _ c.in-Some.ensures.value (under p.0 p.1) c.if-nonce-self.true there
    (at_or_above c.self.inside.slots _ c.in-Some.ensures.least))

pub returns-else-nonce-self-clause-none : goal.returns-else-nonce-self-clause-none
returns-else-nonce-self-clause-none c = no_lookup c.self.inside.lookups c.self.invariant c.self.view_is (λ q at found.
    omega (arith, c.if-nonce-self.false, at_or_above c.self.inside.slots c.in-Some.nonce.now c.in-Some.ensures.least q at found))

pub returns-in-None-clause-none : goal.returns-in-None-clause-none
returns-in-None-clause-none c = no_lookup c.self.inside.lookups c.self.invariant c.self.view_is (λ q at found.
    absurd (no_first c.self.inside.slots (λ some. false≢true (c.in-None.ensures.variant.1 some)) q at found))
