use Rattle.std.proofs.Common.{◌≡◌, ◌++◌, take}
use Rattle.std.specs.List.{flat_map}
use Rattle.ddt_deploy.specs.Export.Blocks.{site_text}
use Rattle.ddt_deploy.proofs.export.oor.push_sites.Given as goal

abbrev pub invariant-loop-site : goal.invariant-loop-site
invariant-loop-site l = l.text.items ≡ l.fn.text.items ++ flat_map (site_text l.peers) (take l.site-index l.sites)
