use Rattle.std.proofs.lemmas.Result.{err_from_is_err_and}
use Rattle.ddt_map_register.specs.RegisterRecord.{record_at}
use Rattle.ddt_foreign.proofs.SeveralLemmas.{begins, goes_on, ends, is_done}
use Rattle.ddt_map_register.proofs.register_records.skip.Goals as goal

pub loop-init : goal.loop-init
loop-init c = begins record_at c.args.count c.args.bytes.now

pub returns-in_err-_record-clause-fault : goal.returns-in_err-_record-clause-fault
returns-in_err-_record-clause-fault c =
    let p = err_from_is_err_and c.from_residual.result c.from_residual.ensures.1 in
    rw (p.1, p.2) (ends record_at c.args.count c.loop.counter c.args.bytes.now c.loop.rest.now c.in_err-_record.field-0.0 c.loop-test.true c.in_err-_record.ensures c.loop.invariant)

pub loop-preserved : goal.loop-preserved
loop-preserved c = goes_on record_at c.args.count c.loop.counter c.args.bytes.now c.loop.rest.now c.in_ok-_record.after.now c.in_ok-_record._record c.loop-test.true c.in_ok-_record.ensures c.loop.invariant

pub returns-clause-read : goal.returns-clause-read
returns-clause-read c = is_done record_at c.args.count c.loop.counter c.args.bytes.now c.loop.rest.now c.loop-test.false c.loop.invariant
