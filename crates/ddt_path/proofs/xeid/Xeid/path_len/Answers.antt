use Rattle.std.proofs.Common.{arith}
use Rattle.ddt_path.specs.laws.Prefix.{length-xeid_path}
use Rattle.ddt_path.proofs.xeid.Xeid.path_len.Goals as goal

pub returns : goal.returns
returns c = omega (arith, length-xeid_path c.args.self, c.width.ensures.width)
