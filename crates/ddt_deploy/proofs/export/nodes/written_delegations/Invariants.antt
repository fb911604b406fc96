use Rattle.std.proofs.Common.{◌≡◌, map, take}
use Rattle.std.specs.List.{All}
use Rattle.ddt_deploy.specs.Export.Rows.{IsNamedBy}
use Rattle.ddt_deploy.proofs.export.nodes.written_delegations.Given as goal

abbrev pub invariant-loop-delegation : goal.invariant-loop-delegation
invariant-loop-delegation l = record {
  all : map (λ r. r.entry) l.rows.items ≡ take l.delegation-index l.delegations;
  named : All (λ r. IsNamedBy r.entry.child.prefix r.written) l.rows.items;
}
