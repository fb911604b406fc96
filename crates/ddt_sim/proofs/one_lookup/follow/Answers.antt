use Rattle.ddt_sim.proofs.ExchangeLemmas.{on_its_way, goes_on, fewer_left, ends_with, ends_within, ends_well, fails_under, fails_well}
use Rattle.ddt_sim.proofs.one_lookup.follow.Goals as goal

pub loop-next-init : goal.loop-next-init
loop-next-init g c = on_its_way (g.S.Servers.honest c.args.servers.now) c.new-hops.ensures.items c.requires

pub loop-next-smaller : goal.loop-next-smaller
loop-next-smaller g c = fewer_left c.loop-next.invariant c.in-Ok-GoesOn.ensures.turn c.in-Ok-GoesOn.ensures.nearer c.in-Ok-GoesOn.field-0-is

pub loop-next-preserved : goal.loop-next-preserved
loop-next-preserved g c =
    goes_on c.loop-next.invariant c.in-Ok-GoesOn.ensures.turn c.in-Ok-GoesOn.ensures.honest c.in-Ok-GoesOn.field-0-is c.in-Ok-GoesOn.ensures.nearer c.in-Ok-GoesOn.ensures.stay

pub returns-in-Ok-Ends-clause-steps : goal.returns-in-Ok-Ends-clause-steps
returns-in-Ok-Ends-clause-steps g c = ends_with c.loop-next.invariant c.in-Ok-Ends.ensures.turn c.in-Ok-Ends.field-0-is c.of.ensures

pub returns-in-Ok-Ends-clause-honest : goal.returns-in-Ok-Ends-clause-honest
returns-in-Ok-Ends-clause-honest g c = ends_well c.loop-next.invariant c.in-Ok-Ends.ensures.turn c.in-Ok-Ends.ensures.honest c.in-Ok-Ends.field-0-is c.of.ensures

pub returns-in-Ok-Ends-clause-stay : goal.returns-in-Ok-Ends-clause-stay
returns-in-Ok-Ends-clause-stay g c = λ r honest. c.in-Ok-Ends.ensures.stay r (c.loop-next.invariant.stay r honest)

pub returns-in-Ok-Ends-clause-bound : goal.returns-in-Ok-Ends-clause-bound
returns-in-Ok-Ends-clause-bound g c = ends_within c.loop-next.invariant c.in-Ok-Ends.ensures.turn c.in-Ok-Ends.ensures.nearer c.of.ensures

pub returns-in-Err-clause-failed : goal.returns-in-Err-clause-failed
returns-in-Err-clause-failed g c = fails_under c.loop-next.invariant c.in-Err.ensures.failed

pub returns-in-Err-clause-honest : goal.returns-in-Err-clause-honest
returns-in-Err-clause-honest g c = fails_well c.loop-next.invariant c.in-Err.ensures.honest

pub returns-in-Err-clause-stay : goal.returns-in-Err-clause-stay
returns-in-Err-clause-stay g c = λ r honest. c.in-Err.ensures.stay r (c.loop-next.invariant.stay r honest)
