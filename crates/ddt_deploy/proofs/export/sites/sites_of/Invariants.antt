use Rattle.std.proofs.Common.{◌≡◌, take}
use Rattle.std.specs.List.{flat_map}
use Rattle.ddt_deploy.specs.Export.Rows.{sites_of}
use Rattle.ddt_deploy.proofs.export.sites.sites_of.Given as goal

abbrev pub invariant-loop-authority : goal.invariant-loop-authority
invariant-loop-authority l = l.all.items ≡ flat_map sites_of (take l.authority-index l.authorities)
