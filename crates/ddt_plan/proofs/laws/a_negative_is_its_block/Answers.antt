use Rattle.ddt_plan.proofs.NegativeLemmas.{negative_is_block}
use Rattle.ddt_plan.proofs.ReadOffLemmas.{read_off}
use Rattle.ddt_plan.proofs.laws.a_negative_is_its_block.Goals as goal

pub returns : goal.returns
returns c = record {
  negative = λ r accepted x q e negative. negative_is_block r accepted x e q negative;
  read_off = read_off;
}
