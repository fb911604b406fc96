use Rattle.std.proofs.Common.{◌≡◌}
use Rattle.std.specs.List.{flat_map}
use Rattle.std.specs.BTreeSet.{contains}
use Rattle.std.specs.Cmp.Lexicographic.{slice_cmp}
use Rattle.std.specs.Ordering.{nat_cmp}
use Rattle.ddt_deploy.specs.Folders.Contents.{Contents}
use Rattle.ddt_deploy.specs.Folders.Wanted.{altered_for, gone_for}
use Rattle.ddt_deploy.proofs.folders.gone_files.gone_files.Given as goal

abbrev pub invariant-loop-name : goal.invariant-loop-name
invariant-loop-name g l = (s : Contents) → g.F.Folder.holds l.initial.folder s → g.F.Folder.holds l.folder s
    × (l.gone.files.items ≡ flat_map (gone_for (λ name. contains (slice_cmp nat_cmp) l.foreign name) l.accepted s.files) l.yielded)
    × (l.gone.altered.items ≡ flat_map (altered_for (λ name. contains (slice_cmp nat_cmp) l.foreign name) l.accepted s.files) l.yielded)
