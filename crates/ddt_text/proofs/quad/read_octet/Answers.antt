use Rattle.std.proofs.Common.{arith, rules}
use Rattle.std.proofs.lemmas.Grind.{common_steps}
use Rattle.std.specs.Net.Reader.{read_octet}
use Rattle.ddt_text.proofs.quad.read_octet.Goals as goal

pub returns-in_err-value : goal.returns-in_err-value
unfolding read_octet
returns-in_err-value c = first_of (search rules, grind (arith, common_steps))

pub returns-then-text-eq48 : goal.returns-then-text-eq48
unfolding read_octet
returns-then-text-eq48 c = first_of (search rules, grind (arith, common_steps))

pub returns : goal.returns
unfolding read_octet
returns c = first_of (search rules, grind (arith, common_steps))
