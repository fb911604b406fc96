use Rattle.std.proofs.Common.{ℕ, refl, ap, subst, arith}
use Rattle.ddt_sim.specs.declared.schedule.Event.TheVariants.{Passed}
use Rattle.ddt_sim.specs.World.{asked, world, passes, replaces, no_member}
use Rattle.ddt_sim.specs.Waiting.{CanBeAsked}
use Rattle.ddt_sim.proofs.schedule_run.take_step.Goals as goal

pub resolve-requires : goal.resolve-requires
resolve-requires g c = (_, asked c.in-Ask.x (subst (CanBeAsked c.in-Ask.x) c.me.ensures c.can_be_asked.ensures) refl refl)

pub returns-in-Pass-clause-step : goal.returns-in-Pass-clause-step
returns-in-Pass-clause-step g c =
    let scene = c.args.scene.now in
    passes c.in-Pass.millis c.in-Pass.is (ap Passed c.later-scene.ensures) (ap (λ (m : ℕ). world m scene.member scene.sent.items c.args.resolver.now) c.later-scene.ensures)

pub returns-then-number-servers-clause-step : goal.returns-then-number-servers-clause-step
returns-then-number-servers-clause-step g c = no_member c.in-Replace.number c.in-Replace.is (omega arith) refl refl

pub returns-else-number-servers-clause-step : goal.returns-else-number-servers-clause-step
returns-else-number-servers-clause-step g c = replaces c.in-Replace.number c.in-Replace.is (omega arith) refl refl
