use Rattle.std.proofs.Common.{◌≡◌, ◌++◌, take}
use Rattle.std.specs.List.{flat_map}
use Rattle.ddt_deploy.specs.Folders.Manifest.{kept_line}
use Rattle.ddt_deploy.proofs.folders.manifest.push_kept.Given as goal

abbrev pub invariant-loop-listed : goal.invariant-loop-listed
invariant-loop-listed l = l.text.items ≡ l.fn.text.items ++ flat_map kept_line (take l.listed-index l.kept)
