use Rattle.std.proofs.lemmas.Result.{err_from_is_err_and}
use Rattle.ddt_map_register.specs.RegisteredLocator.{locator_at}
use Rattle.ddt_foreign.proofs.SeveralLemmas.{begins, goes_on, ends, is_done}
use Rattle.ddt_map_register.proofs.registered_locators.skip.Goals as goal

pub loop-init : goal.loop-init
loop-init c = begins locator_at c.args.count c.args.bytes.now

pub returns-in_err-_locator-clause-fault : goal.returns-in_err-_locator-clause-fault
returns-in_err-_locator-clause-fault c =
    let p = err_from_is_err_and c.from_residual.result c.from_residual.ensures.1 in
    rw (p.1, p.2) (ends locator_at c.args.count c.loop.counter c.args.bytes.now c.loop.rest.now c.in_err-_locator.field-0.0 c.loop-test.true c.in_err-_locator.ensures c.loop.invariant)

pub loop-preserved : goal.loop-preserved
loop-preserved c = goes_on locator_at c.args.count c.loop.counter c.args.bytes.now c.loop.rest.now c.in_ok-_locator.after.now c.in_ok-_locator._locator c.loop-test.true c.in_ok-_locator.ensures c.loop.invariant

pub returns-clause-read : goal.returns-clause-read
returns-clause-read c = is_done locator_at c.args.count c.loop.counter c.args.bytes.now c.loop.rest.now c.loop-test.false c.loop.invariant
