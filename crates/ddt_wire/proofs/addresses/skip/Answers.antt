use Rattle.std.proofs.lemmas.Result.{err_from_is_err_and}
use Rattle.ddt_wire.proofs.AddressesLemmas.{goes_on, ends, is_done}
use Rattle.ddt_wire.proofs.addresses.skip.Goals as goal

pub returns-in_err-_address-clause-fault : goal.returns-in_err-_address-clause-fault
returns-in_err-_address-clause-fault g c =
    let p = err_from_is_err_and c.from_residual.result c.from_residual.ensures.1 in
    rw (p.1, p.2) (ends g.row.BEFORE c.args.count c.loop.counter c.args.bytes.now c.loop.rest.now c.in_err-_address.field-0.0 c.loop-test.true c.in_err-_address.ensures.exact c.loop.invariant)

pub loop-preserved : goal.loop-preserved
loop-preserved g c = rw c.split_at.ensures.back (goes_on g.row.BEFORE c.args.count c.loop.counter c.args.bytes.now c.loop.rest.now c.in_ok-_address._address c.in_ok-_address.taken c.loop-test.true c.in_ok-_address.ensures.exact c.loop.invariant)

pub returns-clause-read : goal.returns-clause-read
returns-clause-read g c = is_done g.row.BEFORE c.args.count c.loop.counter c.args.bytes.now c.loop.rest.now c.loop-test.false c.loop.invariant
