use Rattle.ddt_loop.proofs.running_resolver.RunningResolver.ticket_for.Goals as goal

pub returns-clause-none : goal.returns-clause-none
returns-clause-none g c = rw (← c.self.view_is) c.ticket_for.ensures.none
