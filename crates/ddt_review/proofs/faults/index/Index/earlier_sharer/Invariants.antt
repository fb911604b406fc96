use Rattle.std.proofs.Common.{take}
use Rattle.ddt_register.specs.declared.register.Register.{Register}
use Rattle.ddt_review.specs.Faults.Told.{IsIndexOf}
use Rattle.ddt_review.proofs.FaultsLemmas.ShareLemmas.{IsLeastSharer}
use Rattle.ddt_review.proofs.faults.index.Index.earlier_sharer.Given as goal

abbrev pub invariant-loop-locator : goal.invariant-loop-locator
invariant-loop-locator l =
    (r : Register) → IsIndexOf r l.self → IsLeastSharer r l.group.row (take l.locator-index l.locator-items) l.least
