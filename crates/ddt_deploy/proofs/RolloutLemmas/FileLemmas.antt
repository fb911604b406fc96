-- One more file after those of some configurations.
use Rattle.std.proofs.Common.{List, [], ◌∷◌, ◌++◌}
use Rattle.ddt_config.specs.declared.config.ServerConfig.{ServerConfig}
use Rattle.ddt_deploy.specs.declared.rollout.files.ConfigFile.{ConfigFile}
use Rattle.ddt_deploy.specs.Rollout.Files.{AreFilesOf, IsFileOf}

pub files_last : (cs : List ServerConfig) (files : List ConfigFile) (c : ServerConfig) (file : ConfigFile)
    → AreFilesOf cs files → IsFileOf c file → AreFilesOf (cs ++ c ∷ []) (files ++ file ∷ [])
files_last [] [] c file h k = (k, tt)
files_last [] (g ∷ files) c file h k = absurd h
files_last (d ∷ cs) [] c file h k = absurd h
files_last (d ∷ cs) (g ∷ files) c file h k = (h.0, files_last cs files c file h.1 k)
