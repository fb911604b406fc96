use Rattle.std.proofs.Common.{sym}
use Rattle.std.proofs.lemmas.Nat.{xor_lt}
use Rattle.ddt_path.proofs.SharedDigits.{shared_len-digits}
use Rattle.ddt_path.proofs.masks.shared128.Goals as goal

pub returns-clause-digits : goal.returns-clause-digits
returns-clause-digits c = sym (shared_len-digits 128 c.args.a c.args.b c.ranges.a.fits c.ranges.b.fits (xor_lt 128 c.args.a c.args.b c.ranges.a.fits c.ranges.b.fits))
