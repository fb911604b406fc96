use Rattle.std.proofs.Common.{◌∙◌, arith}
use Rattle.ddt_path.specs.laws.Reader.{found}
use Rattle.ddt_wire.specs.laws.Message.{messages_are_read}
use Rattle.ddt_wire.proofs.referral.read_referral.Goals as goal

pub returns-clause-found : goal.returns-clause-found
returns-clause-found c = found messages_are_read c.args.bytes.now c.message.result (record { at = λ i. omega (arith, c.type_inv.bytes i) }) c.message.ensures

pub returns-clause-only : goal.returns-clause-only
returns-clause-only c = λ v s. c.message.ensures ∙ messages_are_read.read c.args.bytes.now v s
