use Rattle.std.proofs.Common.{◌≡◌, map, take}
use Rattle.std.specs.List.{All}
use Rattle.ddt_deploy.specs.Export.Rows.{IsNamedBy}
use Rattle.ddt_deploy.proofs.export.nodes.written_zones.Given as goal

abbrev pub invariant-loop-zone : goal.invariant-loop-zone
invariant-loop-zone l = record {
  all : map (λ r. r.entry) l.rows.items ≡ take l.zone-index l.zones;
  named : All (λ r. IsNamedBy r.entry r.written) l.rows.items;
}
