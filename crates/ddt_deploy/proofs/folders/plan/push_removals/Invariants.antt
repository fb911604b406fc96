use Rattle.std.proofs.Common.{◌≡◌, ◌++◌, map, take}
use Rattle.ddt_deploy.specs.declared.folders.step.Step.TheVariants.{Remove}
use Rattle.ddt_deploy.proofs.folders.plan.push_removals.Given as goal

abbrev pub invariant-loop-file : goal.invariant-loop-file
invariant-loop-file l = l.steps.items ≡ l.fn.steps.items ++ map (λ file. Remove file.name) (take l.file-index l.gone)
