use Rattle.std.proofs.Common.{◌≡◌}
use Rattle.ddt_resolver.specs.declared.results.Asked.TheVariants.{Answer}
use Rattle.ddt_resolver.specs.State.{moved}
use Rattle.ddt_sim.specs.Headline.{OverHonest, IsRightlyEnded}
use Rattle.ddt_resolver.specs.laws.Order.{order_moved}
use Rattle.ddt_sim.proofs.TrailLemmas.{result_trail, short_result, short_passes}
use Rattle.ddt_sim.proofs.AskLemmas.{ask_keeps_sound, rightly_asked, given, not_refused, refused_fails, refused_is_right, failure_is_error, asked_me}
use Rattle.ddt_wire.specs.laws.Message.{messages_are_read}
use Rattle.ddt_sim.proofs.one_lookup.lookup.Given.{Over}
use Rattle.ddt_sim.proofs.one_lookup.lookup.Goals.{After-after_ask}
use Rattle.ddt_sim.proofs.one_lookup.lookup.Goals as goal

-- what comes of an ask over honest servers
ended : (g : Over) (c : After-after_ask g) → OverHonest (g.S.Servers.honest c.args.servers.now) c.args.resolver.now (λ r. IsRightlyEnded r c.args.x c.args.resolver.now.me c.after_ask.result c.after_ask.new.resolver)
ended g c = λ r accepted honest sound.
    rw (← asked_me c.millis-millis.ensures.bound c.in_order.ensures c.ask.ensures.identifier c.in-Ok.ensures.step) (c.after_ask.ensures.honest r c.args.x honest
    (rightly_asked c.a_step_keeps_a_resolver_sound.ensures.steps c.a_step_keeps_a_resolver_sound.ensures.time c.args.x c.millis-millis.ensures.bound c.in_order.ensures c.ask.ensures.identifier accepted sound
    c.in-Ok.ensures.step (rw (← c.me.ensures) c.can_be_asked.ensures)))

pub returns-in-Ok-clause-headline : goal.returns-in-Ok-clause-headline
returns-in-Ok-clause-headline g c = λ r accepted honest sound. (ended g c r accepted honest sound).right

pub returns-in-Ok-clause-sound : goal.returns-in-Ok-clause-sound
returns-in-Ok-clause-sound g c = λ r accepted honest sound. (ended g c r accepted honest sound).sound

pub returns-in-Ok-clause-hops : goal.returns-in-Ok-clause-hops
returns-in-Ok-clause-hops g c = λ r accepted honest sound. (ended g c r accepted honest sound).fair

pub returns-in-Ok-clause-errors : goal.returns-in-Ok-clause-errors
returns-in-Ok-clause-errors g c = λ r accepted honest sound. failure_is_error c.args.resolver.now c.after_ask.new.resolver c.after_ask.result (ended g c r accepted honest sound).failure

pub returns-in-Ok-clause-trail : goal.returns-in-Ok-clause-trail
returns-in-Ok-clause-trail g c =
    result_trail c.args.now c.args.x c.args.resolver.now (order_moved c.args.resolver.now c.args.now c.millis-millis.ensures.bound c.in_order.ensures) c.ask.ensures.identifier
    c.after_ask.new.resolver c.after_ask.result (c.after_ask.ensures.steps c.args.x c.args.resolver.now c.in-Ok.ensures.step)

pub returns-in-Ok-clause-passes : goal.returns-in-Ok-clause-passes
returns-in-Ok-clause-passes g c = short_passes messages_are_read c.args.x (moved c.args.now c.args.resolver.now) c.after_ask.result (returns-in-Ok-clause-trail g c)

pub returns-in-Ok-clause-short : goal.returns-in-Ok-clause-short
returns-in-Ok-clause-short g c = λ r accepted honest sound.
    short_result c.honest_trails_are_short.ensures r c.args.x (moved c.args.now c.args.resolver.now) accepted
    (order_moved c.args.resolver.now c.args.now c.millis-millis.ensures.bound c.in_order.ensures)
    (c.a_step_keeps_a_resolver_sound.ensures.time r c.args.resolver.now c.args.now sound) c.ask.ensures.identifier c.after_ask.result
    (returns-in-Ok-clause-trail g c) (returns-in-Ok-clause-hops g c r accepted honest sound)

pub returns-in-Ok-clause-remembered : goal.returns-in-Ok-clause-remembered
returns-in-Ok-clause-remembered g c = λ kept. let own : c.in-Ok.asked ≡ Answer kept.outcome = cc (given kept c.in-Ok.ensures.step) in c.after_ask.ensures.answered kept.outcome own

pub returns-in-Err-clause-sound : goal.returns-in-Err-clause-sound
returns-in-Err-clause-sound g c = λ r accepted honest sound.
    ask_keeps_sound c.a_step_keeps_a_resolver_sound.ensures.steps c.a_step_keeps_a_resolver_sound.ensures.time c.args.x c.millis-millis.ensures.bound c.in_order.ensures c.ask.ensures.identifier
    accepted sound c.in-Err.error c.in-Err.ensures.step c.in-Err.ensures.memory

pub returns-in-Err-clause-errors : goal.returns-in-Err-clause-errors
returns-in-Err-clause-errors g c = λ r accepted honest sound.
    rw c.ask_refused.ensures (refused_is_right c.args.now c.args.x c.args.resolver.now c.ask.new.self c.in-Err.error c.in-Err.ensures.step)

pub returns-in-Err-clause-failed : goal.returns-in-Err-clause-failed
returns-in-Err-clause-failed g c = rw c.ask_refused.ensures (refused_fails c.in-Err.error c.in-Err.ensures.step c.in-Err.ensures.memory)

pub returns-in-Err-clause-remembered : goal.returns-in-Err-clause-remembered
returns-in-Err-clause-remembered g c = λ kept. absurd (not_refused kept c.ask.new.self c.in-Err.error c.in-Err.ensures.step c.in-Err.ensures.memory)
