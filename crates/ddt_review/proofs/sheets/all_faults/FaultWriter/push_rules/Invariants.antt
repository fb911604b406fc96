use Rattle.std.proofs.Common.{◌≡◌, ◌++◌, take}
use Rattle.ddt_review.specs.Sheets.Told.{fault_kinds, rules_of}
use Rattle.ddt_review.proofs.sheets.all_faults.FaultWriter.push_rules.Given as goal

abbrev pub invariant-loop-rule : goal.invariant-loop-rule
invariant-loop-rule l = fault_kinds l.faults.items ≡ fault_kinds l.fn.faults.items ++ rules_of (take l.rule-index l.broken)
