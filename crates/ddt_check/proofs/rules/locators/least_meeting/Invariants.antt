use Rattle.std.proofs.Common.{take, map, IsPermutation}
use Rattle.ddt_path.specs.declared.locator.Locator.{Locator}
use Rattle.ddt_register.specs.declared.register.Register.{Register}
use Rattle.ddt_check.specs.Rules.{IsLeastRow}
use Rattle.ddt_check.specs.Columns.{cell_of, meets_at}
use Rattle.ddt_check.proofs.LeastLemmas.{any_at}
use Rattle.ddt_check.proofs.rules.locators.least_meeting.Given as goal

abbrev pub invariant-loop-l : goal.invariant-loop-l
invariant-loop-l l = (r : Register) → IsPermutation (map (cell_of l.column) r.groups) l.cells → IsLeastRow
    (any_at (λ (x : Locator). meets_at r l.column l.g x) (take l.l-index l.locators)) l.least
