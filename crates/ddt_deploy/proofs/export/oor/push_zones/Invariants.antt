use Rattle.std.proofs.Common.{◌≡◌, ◌++◌, take}
use Rattle.std.specs.List.{flat_map}
use Rattle.ddt_deploy.specs.Export.Blocks.{zone_text}
use Rattle.ddt_deploy.proofs.export.oor.push_zones.Given as goal

abbrev pub invariant-loop-zone : goal.invariant-loop-zone
invariant-loop-zone l = l.text.items ≡ l.fn.text.items ++ flat_map zone_text (take l.zone-index l.zones)
