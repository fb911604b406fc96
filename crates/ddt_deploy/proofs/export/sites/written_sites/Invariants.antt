use Rattle.std.proofs.Common.{◌≡◌, map, take}
use Rattle.std.specs.List.{All}
use Rattle.ddt_deploy.specs.Export.Rows.{IsNamedBy}
use Rattle.ddt_deploy.proofs.export.sites.written_sites.Given as goal

abbrev pub invariant-loop-site : goal.invariant-loop-site
invariant-loop-site l = record {
  all : map (λ r. r.entry) l.rows.items ≡ take l.site-index l.sites;
  named : All (λ r. IsNamedBy r.entry.prefix r.written) l.rows.items;
}
