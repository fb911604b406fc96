use Rattle.ddt_loop.proofs.requesters.Requesters.ticket_for.Goals as goal

pub returns-clause-asked : goal.returns-clause-asked
returns-clause-asked c = rw (← c.self.view_is) c.ticket_of.ensures.asked

pub returns-clause-none : goal.returns-clause-none
returns-clause-none c = rw (← c.self.view_is) c.ticket_of.ensures.none
