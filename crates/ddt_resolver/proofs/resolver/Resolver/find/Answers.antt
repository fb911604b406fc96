use Rattle.std.proofs.Common.{ap, ◌∙◌}
use Rattle.ddt_resolver.specs.State.{State}
use Rattle.ddt_resolver.proofs.StateLemmas.{moved_to_itself}
use Rattle.ddt_resolver.proofs.resolver.Resolver.find.Goals as goal

pub invariant_of-self : goal.invariant_of-self
invariant_of-self g c = rw (c.find_copied.ensures.moved ∙ moved_to_itself _ _ c.time-now.ensures c.in_order.ensures) c.self.invariant

pub returns-clause-unchanged : goal.returns-clause-unchanged
returns-clause-unchanged g c = rw (c.find_copied.ensures.moved ∙ moved_to_itself _ _ c.time-now.ensures c.in_order.ensures) c.self.view_is

pub returns-clause-found : goal.returns-clause-found
returns-clause-found g c =
    rw (c.find_copied.ensures.moved ∙ moved_to_itself _ _ c.time-now.ensures c.in_order.ensures ∙ ap (λ (s : State). s.known) c.self.view_is) at c.find_copied.ensures.found
