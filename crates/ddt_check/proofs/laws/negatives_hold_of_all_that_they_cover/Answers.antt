use Rattle.ddt_check.specs.laws.Free.{hole_is_free_in, part_is_free_in}
use Rattle.ddt_check.proofs.NegativeLemmas.{registered_is_site, negative_covers, holds_of_all}
use Rattle.ddt_check.proofs.laws.negatives_hold_of_all_that_they_cover.Goals as goal

pub returns : goal.returns
returns c = record {
  registered = registered_is_site;
  negative = λ r accepted x q e is. (negative_covers r accepted x q is, holds_of_all r accepted x q e is);
  hole = hole_is_free_in;
  part = part_is_free_in;
}
