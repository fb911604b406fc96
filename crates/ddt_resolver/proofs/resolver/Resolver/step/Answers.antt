use Rattle.std.proofs.Common.{refl, ap}
use Rattle.ddt_resolver.specs.State.{moved}
use Rattle.ddt_resolver.specs.Step.{call_of, hears, ticks}
use Rattle.ddt_resolver.proofs.StepLemmas.{asked_step}
use Rattle.ddt_resolver.proofs.resolver.Resolver.step.Goals as goal

pub returns-in-Ask-clause-step : goal.returns-in-Ask-clause-step
returns-in-Ask-clause-step g c =
    let called = ap call_of c.in-Ask.is in
    let e = c.unless_out_of_memory.ensures in
    rw called (asked_step (moved c.args.now c.args.self.now) c.in-Ask.x c.ask.new.self c.ask.result c.unless_out_of_memory.result
    c.ask.ensures.identifier c.ask.ensures.step e.reply e.answered)

pub returns-in_ok-datagram-in-Datagram-clause-step : goal.returns-in_ok-datagram-in-Datagram-clause-step
returns-in_ok-datagram-in-Datagram-clause-step g c =
    hears c.in-Datagram.from c.in-Datagram.bytes.now c.in_ok-datagram-in-Datagram.field-0 c.in_ok-datagram-in-Datagram.ensures.step
    (ap call_of c.in-Datagram.is) refl

pub returns-in_ok-tick-in-Tick-clause-step : goal.returns-in_ok-tick-in-Tick-clause-step
returns-in_ok-tick-in-Tick-clause-step g c =
    ticks c.in_ok-tick-in-Tick.field-0 c.in_ok-tick-in-Tick.ensures.step (ap call_of c.in-Tick.is) refl
