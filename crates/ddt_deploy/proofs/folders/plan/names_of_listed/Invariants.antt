use Rattle.std.proofs.Common.{◌≡◌, map, take}
use Rattle.ddt_deploy.specs.declared.folders.file_name.FileName.TheVariants.{Config}
use Rattle.ddt_deploy.proofs.folders.plan.names_of_listed.Given as goal

abbrev pub invariant-loop-listed : goal.invariant-loop-listed
invariant-loop-listed l = l.names.items ≡ map (λ listed. Config listed.name) (take l.listed-index l.configs)
