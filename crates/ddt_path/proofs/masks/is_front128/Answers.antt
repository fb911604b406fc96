use Rattle.std.proofs.Common.{arith}
use Rattle.ddt_path.specs.laws.Prefix.{is_front_test}
use Rattle.ddt_path.proofs.masks.is_front128.Goals as goal

pub returns : goal.returns
returns c = is_front_test 128 c.args.len c.args.number c.front128.result c.requires c.ranges.number.fits (omega arith) c.front128.ensures
