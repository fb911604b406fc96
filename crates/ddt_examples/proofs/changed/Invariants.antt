use Rattle.std.proofs.Common.{◌≡◌, take}
use Rattle.ddt_examples.specs.Changes.{with_changes}
use Rattle.ddt_examples.proofs.changed.Given as goal

abbrev pub invariant-loop-at : goal.invariant-loop-at
invariant-loop-at l = l.message.items ≡ with_changes l.fn.message.items (take l.at-index l.changes)
