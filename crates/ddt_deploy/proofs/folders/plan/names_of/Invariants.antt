use Rattle.std.proofs.Common.{◌≡◌, map, take}
use Rattle.ddt_deploy.proofs.folders.plan.names_of.Given as goal

abbrev pub invariant-loop-file : goal.invariant-loop-file
invariant-loop-file l = l.names.items ≡ map (λ file. file.name) (take l.file-index l.files)
