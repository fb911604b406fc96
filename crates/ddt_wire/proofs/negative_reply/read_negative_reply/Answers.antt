use Rattle.std.proofs.Common.{◌∙◌, arith}
use Rattle.ddt_path.specs.laws.Reader.{found}
use Rattle.ddt_wire.specs.laws.Message.{replies_are_read}
use Rattle.ddt_wire.proofs.negative_reply.read_negative_reply.Goals as goal

pub returns-clause-found : goal.returns-clause-found
returns-clause-found c = found replies_are_read c.args.bytes.now c.reply.result (record { at = λ i. omega (arith, c.type_inv.bytes i) }) c.reply.ensures

pub returns-clause-only : goal.returns-clause-only
returns-clause-only c = λ v s. c.reply.ensures ∙ replies_are_read.read c.args.bytes.now v s
