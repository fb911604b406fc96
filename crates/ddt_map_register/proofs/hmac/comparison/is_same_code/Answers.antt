use Rattle.std.proofs.Common.{arith}
use Rattle.ddt_map_register.proofs.HmacLemmas.Codes.{compare_step}
use Rattle.ddt_map_register.proofs.hmac.comparison.is_same_code.Goals as goal

pub loop-i-preserved : goal.loop-i-preserved
loop-i-preserved c = compare_step c.loop-i.difference c.loop-i.i c.args.first.now c.args.second.now (omega arith) (omega arith) c.loop-i.invariant
