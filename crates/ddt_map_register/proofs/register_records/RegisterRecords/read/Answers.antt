use Rattle.std.proofs.Common.{arith}
use Rattle.ddt_map_register.proofs.TakesLemmas.{rest_is_short}
use Rattle.ddt_map_register.proofs.register_records.RegisterRecords.read.Goals as goal

pub returns-clause-len : goal.returns-clause-len
returns-clause-len c = rest_is_short c.args.count c.args.bytes.now c.in_ok-rest.rest.now (record { at = λ i. omega (arith, c.type_inv.bytes i) }) c.in_ok-rest.ensures.read
