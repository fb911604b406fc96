use Rattle.std.proofs.Common.{false, sym}
use Rattle.std.proofs.lemmas.List.{length-replicate}
use Rattle.ddt_check.proofs.rules.locators.wrong_of_many.Goals as goal

pub slice_bounds-wrong_by_cells-end-2 : goal.slice_bounds-wrong_by_cells-end-2
slice_bounds-wrong_by_cells-end-2 c = sym (length-replicate 524288 false)
