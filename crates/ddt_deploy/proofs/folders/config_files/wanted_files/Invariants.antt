use Rattle.std.proofs.Common.{◌≡◌, List, ◌∷◌}
use Rattle.ddt_deploy.specs.declared.folders.step.NamedFile.{NamedFile}
use Rattle.ddt_deploy.specs.Folders.Wanted.{register_file, AreConfigFiles}
use Rattle.ddt_deploy.proofs.folders.config_files.wanted_files.Given as goal

abbrev pub invariant-loop-config : goal.invariant-loop-config
invariant-loop-config l = (files : List NamedFile) × (l.files.items ≡ register_file l.register ∷ files)
    × AreConfigFiles l.yielded files
