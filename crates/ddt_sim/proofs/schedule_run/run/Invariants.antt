use Rattle.ddt_sim.specs.World.{world}
use Rattle.ddt_sim.proofs.RunLemmas.{IsRunning}
use Rattle.ddt_sim.proofs.schedule_run.run.Given as goal

-- what was run so far is a history
abbrev pub invariant-loop-step : goal.invariant-loop-step
invariant-loop-step g l =
    IsRunning g.S.Servers.honest g.S.Servers.silent l.fn.servers l.servers l.fn.resolver l.steps l.step-index l.events.items
    (world l.scene.moment l.scene.member l.scene.sent.items l.resolver)
