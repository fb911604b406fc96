use Rattle.std.proofs.Common.{◌≡◌, ◌++◌, map, take}
use Rattle.ddt_deploy.specs.Export.Rows.{delegation_in}
use Rattle.ddt_deploy.proofs.export.nodes.push_children.Given as goal

abbrev pub invariant-loop-child : goal.invariant-loop-child
invariant-loop-child l =
    l.delegations.items ≡ l.fn.delegations.items ++ map (delegation_in l.zone) (take l.child-index l.children)
