use Rattle.std.proofs.Common.{◌≡◌, ◌++◌, take}
use Rattle.std.specs.List.{flat_map}
use Rattle.ddt_deploy.specs.Export.Blocks.{authority_text}
use Rattle.ddt_deploy.proofs.export.oor.push_families.Given as goal

abbrev pub invariant-loop-family : goal.invariant-loop-family
invariant-loop-family l = l.text.items ≡ l.fn.text.items ++ flat_map authority_text (take l.family-index l.families)
