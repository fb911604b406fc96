use Rattle.std.proofs.Common.{◌≡◌, map}
use Rattle.ddt_report.proofs.lines_and_fields.parts_of.Given as goal

abbrev pub invariant-loop-part : goal.invariant-loop-part
invariant-loop-part l = l.parts.items ≡ map (λ t. t.now) l.yielded
