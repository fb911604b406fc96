use Rattle.std.proofs.Common.{take}
use Rattle.std.specs.BTreeMap.{get}
use Rattle.ddt_path.specs.declared.locator.Locator.{Locator}
use Rattle.ddt_review.specs.Warnings.Found.{IsServerRow, address_of, address_cmp}
use Rattle.ddt_review.proofs.warnings.servers.servers.Given as goal

abbrev pub invariant-loop-group : goal.invariant-loop-group
invariant-loop-group l = (k : Locator)
    → IsServerRow (take l.group-index l.groups) k (get address_cmp l.rows (address_of k))
