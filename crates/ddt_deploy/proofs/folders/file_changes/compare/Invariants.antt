use Rattle.std.proofs.Common.{◌≡◌, ◌++◌}
use Rattle.ddt_deploy.specs.Folders.Contents.{Contents}
use Rattle.ddt_deploy.specs.Folders.Wanted.{same_in, steps_for}
use Rattle.ddt_deploy.proofs.folders.file_changes.compare.Given as goal

abbrev pub invariant-loop-file : goal.invariant-loop-file
invariant-loop-file g l = (s : Contents) → g.F.Folder.holds l.initial.folder s → g.F.Folder.holds l.folder s
    × (l.draft.steps.items ≡ l.initial.draft.steps.items ++ steps_for s.files l.yielded)
    × (l.draft.same.items ≡ l.initial.draft.same.items ++ same_in s.files l.yielded)
