use Rattle.std.proofs.Common.{◌≡◌, ◌++◌, take}
use Rattle.ddt_lines.specs.Lines.{spaced}
use Rattle.ddt_plan_commands.proofs.item_lines.push_spaced.Given as goal

abbrev pub invariant-loop-address : goal.invariant-loop-address
invariant-loop-address l = l.line.items ≡ l.fn.line.items ++ spaced (take l.address-index l.addresses)
