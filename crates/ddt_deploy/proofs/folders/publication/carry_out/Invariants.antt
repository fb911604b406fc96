use Rattle.std.proofs.Common.{take}
use Rattle.ddt_deploy.specs.Folders.Contents.{Contents}
use Rattle.ddt_deploy.specs.Folders.Steps.{after}
use Rattle.ddt_deploy.proofs.folders.publication.carry_out.Given as goal

abbrev pub invariant-loop-step : goal.invariant-loop-step
invariant-loop-step g l = (s : Contents) → g.F.Folder.holds l.initial.folder s
    → g.F.Folder.holds l.folder (after (take l.step-index l.steps) s)
