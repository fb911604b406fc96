use Rattle.std.proofs.Common.{◌≡◌, ◌++◌, take}
use Rattle.std.specs.List.{flat_map}
use Rattle.ddt_deploy.specs.Export.Blocks.{delegation_text}
use Rattle.ddt_deploy.proofs.export.oor.push_delegations.Given as goal

abbrev pub invariant-loop-delegation : goal.invariant-loop-delegation
invariant-loop-delegation l =
    l.text.items ≡ l.fn.text.items ++ flat_map delegation_text (take l.delegation-index l.delegations)
