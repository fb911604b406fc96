use Rattle.std.proofs.Common.{◌≡◌, map, take}
use Rattle.std.specs.List.{All}
use Rattle.ddt_deploy.specs.Export.Rows.{IsNamedBy}
use Rattle.ddt_deploy.proofs.export.sites.missing_zone_rows.Given as goal

abbrev pub invariant-loop-authority : goal.invariant-loop-authority
invariant-loop-authority l = record {
  all : map (λ r. r.entry) l.rows.items ≡ map (λ a. a.prefix) (take l.authority-index l.authorities);
  named : All (λ r. IsNamedBy r.entry r.written) l.rows.items;
}
