use Rattle.std.proofs.Common.{◌≡◌, ◌++◌, take}
use Rattle.std.specs.List.{flat_map}
use Rattle.ddt_deploy.specs.Folders.Manifest.{manifest_line}
use Rattle.ddt_deploy.proofs.folders.manifest.push_lines.Given as goal

abbrev pub invariant-loop-file : goal.invariant-loop-file
invariant-loop-file l = l.text.items ≡ l.fn.text.items ++ flat_map manifest_line (take l.file-index l.files)
