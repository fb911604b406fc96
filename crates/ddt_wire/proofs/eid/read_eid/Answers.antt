use Rattle.std.proofs.Common.{ap, ◌∙◌, arith}
use Rattle.ddt_wire.specs.Eid.{eid_at}
use Rattle.ddt_wire.specs.laws.Eid.{eid_again, eid_found}
use Rattle.ddt_wire.proofs.eid.read_eid.Goals as goal

pub returns-clause-found : goal.returns-clause-found
returns-clause-found c = eid_found c.args.mask_len c.args.bytes.now c.eid.result (record { at = λ i. omega (arith, c.type_inv.bytes i) }) c.eid.ensures.exact

pub returns-clause-only : goal.returns-clause-only
returns-clause-only c = λ eid rest p s is. c.eid.ensures.exact ∙ ap (eid_at c.args.mask_len) is ∙ eid_again c.args.mask_len eid p rest s
