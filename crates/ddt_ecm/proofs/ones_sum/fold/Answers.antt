use Rattle.std.proofs.Common.{◌+◌, ◌/◌, ◌%◌, arith}
use Rattle.ddt_ecm.proofs.ones_sum.fold.Goals as goal

pub returns : goal.returns
returns c = record {
  times = c.args.sum / 65536 + (c.args.sum / 65536 + c.args.sum % 65536) / 65536;
  folds = omega arith;
  small = omega arith;
  some = λ h. omega arith;
}
