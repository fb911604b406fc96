use Rattle.std.proofs.Common.{◌≡◌, take}
use Rattle.std.specs.List.{flat_map}
use Rattle.ddt_deploy.specs.Export.Rows.{delegations_of}
use Rattle.ddt_deploy.proofs.export.nodes.delegations_of.Given as goal

abbrev pub invariant-loop-authority : goal.invariant-loop-authority
invariant-loop-authority l = l.delegations.items ≡ flat_map delegations_of (take l.authority-index l.authorities)
