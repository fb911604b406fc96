use Rattle.std.proofs.Common.{◌∙◌, arith}
use Rattle.ddt_map_register.proofs.AgainLemmas.{message_again}
use Rattle.ddt_map_register.proofs.TakesLemmas.{message_found}
use Rattle.ddt_map_register.proofs.map_register.read_register.Goals as goal

pub returns-clause-found : goal.returns-clause-found
returns-clause-found c = message_found c.args.bytes.now c.register.result (record { at = λ i. omega (arith, c.type_inv.bytes i) }) c.register.ensures

pub returns-clause-only : goal.returns-clause-only
returns-clause-only c = λ v s. c.register.ensures ∙ message_again c.args.bytes.now v s
