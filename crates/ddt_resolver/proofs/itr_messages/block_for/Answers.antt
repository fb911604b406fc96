use Rattle.std.proofs.Common.{arith}
use Rattle.ddt_path.specs.laws.Prefix.{length-xeid_path}
use Rattle.ddt_resolver.proofs.itr_messages.block_for.Goals as goal

pub cut-requires : goal.cut-requires
cut-requires c = omega (arith, length-xeid_path c.args.x)
