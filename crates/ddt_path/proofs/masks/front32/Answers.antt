use Rattle.ddt_path.specs.DigitLemmas.{digits-masked, digits-zero}
use Rattle.ddt_path.proofs.masks.front32.Goals as goal

pub returns-then-len-eq0 : goal.returns-then-len-eq0
returns-then-len-eq0 c = rw c.if-len-eq0.true (digits-zero 32)

pub returns : goal.returns
returns c = digits-masked 32 c.args.len c.args.number c.requires c.ranges.number.fits
