use Rattle.std.proofs.Common.{◌≡◌, take}
use Rattle.ddt_register.specs.declared.group.Group.{Group}
use Rattle.ddt_register.specs.declared.register.Register.{Register}
use Rattle.ddt_check.specs.Rules.{IsLeastRow}
use Rattle.ddt_check.specs.Columns.{meets_in}
use Rattle.ddt_check.proofs.LeastLemmas.{any_at}
use Rattle.ddt_check.proofs.rules.locators.shared.Given as goal

abbrev pub invariant-loop-g : goal.invariant-loop-g
invariant-loop-g l = (r : Register) → r.groups ≡ l.groups → IsLeastRow
    (any_at (λ (x : Group). meets_in r l.column x) (take l.g-index l.groups)) l.least
