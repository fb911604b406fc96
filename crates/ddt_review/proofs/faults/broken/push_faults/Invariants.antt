use Rattle.std.proofs.Common.{◌≡◌, ◌++◌, take}
use Rattle.std.specs.List.{filter_map}
use Rattle.ddt_register.specs.declared.register.Register.{Register}
use Rattle.ddt_check.specs.Rules.{all_rules}
use Rattle.ddt_review.specs.Faults.Told.{IsIndexOf, IsInRow, told}
use Rattle.ddt_review.proofs.faults.broken.push_faults.Given as goal

abbrev pub invariant-loop-rule : goal.invariant-loop-rule
invariant-loop-rule l =
    (r : Register) → IsIndexOf r l.index → IsInRow r l.row l.items
    → l.list.items ≡ l.initial.list.items ++ filter_map (told r l.row) (take l.rule-index all_rules)
