use Rattle.ddt_loop.proofs.running_resolver.RunningResolver.hear.Goals as goal

pub returns-clause-used : goal.returns-clause-used
returns-clause-used g c = rw (← c.self.view_is) c.hear.ensures.used
