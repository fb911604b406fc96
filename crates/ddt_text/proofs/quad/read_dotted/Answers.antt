use Rattle.std.proofs.Common.{arith, rules}
use Rattle.std.proofs.lemmas.Grind.{common_steps}
use Rattle.std.specs.Net.Reader.{read_ipv4}
use Rattle.ddt_text.proofs.quad.read_dotted.Goals as goal

pub returns-in_err-first : goal.returns-in_err-first
unfolding read_ipv4
returns-in_err-first c = first_of (search rules, grind (arith, common_steps))

pub returns-in_err-read_byte : goal.returns-in_err-read_byte
unfolding read_ipv4
returns-in_err-read_byte c = first_of (search rules, grind (arith, common_steps))

pub returns-in_err-second : goal.returns-in_err-second
unfolding read_ipv4
returns-in_err-second c = first_of (search rules, grind (arith, common_steps))

pub returns-in_err-read_byte-2 : goal.returns-in_err-read_byte-2
unfolding read_ipv4
returns-in_err-read_byte-2 c = first_of (search rules, grind (arith, common_steps))

pub returns-in_err-third : goal.returns-in_err-third
unfolding read_ipv4
returns-in_err-third c = first_of (search rules, grind (arith, common_steps))

pub returns-in_err-read_byte-3 : goal.returns-in_err-read_byte-3
unfolding read_ipv4
returns-in_err-read_byte-3 c = first_of (search rules, grind (arith, common_steps))

pub returns-in_err-fourth : goal.returns-in_err-fourth
unfolding read_ipv4
returns-in_err-fourth c = first_of (search rules, grind (arith, common_steps))

pub returns : goal.returns
unfolding read_ipv4
returns c = first_of (search rules, grind (arith, common_steps))
