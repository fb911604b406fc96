use Rattle.std.proofs.Common.{◌≡◌, ◌≤◌, ℕ, false}
use Rattle.ddt_check.specs.declared.fault.Rule.{Rule}
use Rattle.ddt_check.specs.Rules.{broken, rule_number}
use Rattle.ddt_check.proofs.first_fault.find_fault.Given as goal

abbrev pub invariant-loop-rule : goal.invariant-loop-rule
invariant-loop-rule l =
    (earlier : Rule) (n : ℕ) → rule_number earlier ≤ l.rule-index → broken l.register earlier n ≡ false
